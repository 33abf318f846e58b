-- What holds of every table reached from a fresh one: its size, its D, and who holds the word.
use Rattle.std.specs.Prelude.{◌≡◌, List, [], ◌∷◌, ℕ}
use Rattle.model.specs.declared.Table.{Table}
use Rattle.model.specs.Table.{Sized, fresh_table}
use Rattle.model.specs.Run.{Order, after, ran}
use Rattle.model.proofs.Laws.After.{fresh-sized, after-sized}
use Rattle.model.proofs.Laws.Kept.{ran-sized, ran-d}
use Rattle.model.proofs.Laws.Holding.{Safe, safe-fresh, safe-after}

ran-safe : (t : Table) (os : List Order) → Sized t → Safe t → Safe (ran t os)
unfolding ran
ran-safe t [] s h = h
ran-safe t (o ∷ os) s h = ran-safe (after t o) os (after-sized t o s) (safe-after t o s h)

module _ (d : ℕ) (os : List Order) where
  pub reached-sized : Sized (ran (fresh_table d) os)
  reached-sized = ran-sized (fresh_table d) os (fresh-sized d)

  pub reached-safe : Safe (ran (fresh_table d) os)
  reached-safe = ran-safe (fresh_table d) os (fresh-sized d) (safe-fresh d)

  pub reached-d : (ran (fresh_table d) os).shared.d ≡ d
  unfolding fresh_table
  reached-d = ran-d (fresh_table d) os
