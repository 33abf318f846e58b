-- The check of an image where it stands: the places below D, one by one; those above it are empty.
use Rattle.std.specs.Prelude.{◌≡◌, Bool, None, Some, Ok, Err, eqb, cond, ◌&&◌, ℕ, zero, suc, ◌+◌, ◌-◌, ◌≤◌, ◌<◌, ltb}
use Rattle.std.proofs.Math.Path.{refl, sym}
use Rattle.std.proofs.Common.{ap, ◌∙◌, add-one, arith, pos_of_ne-zero, eqb-true}
use Rattle.std.proofs.Math.Bool.{true, false, and-true, and_assoc, or-true}
use mathlib.Core.List.{List, [], foldl}
use Rattle.std.proofs.Math.Decide.{dec_lt}
use borrow.Author.Tests.{lt-ltb, le-ltb, le-leb, eqb-false}
use Rattle.model.specs.declared.Fault.{Fault}
use Rattle.model.specs.declared.Port.{Port}
use Rattle.model.specs.declared.Copies.{Copies}
use Rattle.model.specs.declared.Shared.{Shared}
use Rattle.model.specs.declared.Table.{Table}
use Rattle.model.specs.declared.Answer.TheVariants.{Done, BadTable, BadImage}
use Rattle.model.specs.Table.{room, port_at, copies_at, size_good}
use Rattle.model.specs.Good.{Rule, every_below, place_empty, room_empty, shared_rules, port_rules, ports_rules, good, nowhere, lower, bad_in}
use Rattle.model.specs.Parts.Good.{shared_good, port_empty, place_good, all_good}
use Rattle.model.specs.Parts.Rules.{port_tests}
use Rattle.model.proofs.Laws.Tests.{below-every}
use Rattle.model.specs.Parts.Listed.{rules_at}
use Rattle.model.proofs.Laws.Listed.{good-all}
use Rattle.model.proofs.Laws.Faults.{bad-append}
use Rattle.rules.specs.Check.{port-whole, work-made, shared-made, bad_below, shared-any, port-any}
use Rattle.model.specs.Layout.{port_widths, copies_widths, port_values, copies_values, port_of, copies_of, port_place, copies_place, d_in, is_image}
use Rattle.records.specs.Records.{there, ports_in, some_ports}
use Rattle.records.specs.Laws.Head.{image-tests}
use Rattle.image.specs.Image.{held, decode, checked}
use Rattle.image.proofs.Laws.Held.{port-above, copies-above, d-held, is-image, held_fits, port-held, copies-held}

module _ (d : ℕ) (bs : List ℕ) where
  -- places at or above d are good
  place-above : (i : ℕ) → d ≤ i → place_good (held d bs) i ≡ true
  unfolding place_good port_empty
  place-above i h = rw (d-held d bs, le-ltb i d h, port-above d bs i h, copies-above d bs i h)

  -- and the room kept there is empty
  room-held : room_empty (held d bs) ≡ true
  unfolding place_empty port_values copies_values
  room-held = below-every room (place_empty (held d bs)) (λ k l. elim (dec_lt k d) [
    | yes h ↦ rw (d-held d bs, lt-ltb k d h)
    | no h ↦ rw (port-above d bs k (omega arith), copies-above d bs k (omega arith), or-true (ltb k (held d bs).shared.d))
  ])

-- a test that passes from d on is made below d
every-from : (f : ℕ → Bool) (d k : ℕ) → ((i : ℕ) → d ≤ i → f i ≡ true) → every_below (d + k) f ≡ every_below d f
unfolding every_below
every-from f d zero h = let e : d + 0 ≡ d = omega arith in rw e
every-from f d (suc k) h =
    let e : d + suc k ≡ suc (d + k) = omega arith in
    rw (e, h (d + k) (omega arith), and-true (every_below (d + k) f)) (every-from f d k h)

-- the whole check, made below d
pub good-held : (d : ℕ) (bs : List ℕ) (s ok : Bool) → 1 ≤ d → d ≤ room
    → s ≡ shared_good (held d bs).shared (port_at (held d bs) (held d bs).shared.word.owner).made
    → ok ≡ (s && every_below d (place_good (held d bs))) → ok ≡ good (held d bs)
unfolding all_good size_good
good-held d bs s ok a b e g =
    let r : d + (room - d) ≡ room = omega arith in
    let p : every_below room (place_good (held d bs)) ≡ every_below d (place_good (held d bs)) =
    ap (λ (n : ℕ). every_below n (place_good (held d bs))) (sym r) ∙ every-from (place_good (held d bs)) d (room - d) (place-above d bs) in
    let q : ok ≡ all_good (held d bs) = rw (g, e, p, d-held d bs, le-leb 1 d a, le-leb d room b) in
    q ∙ sym (good-all (held d bs))

-- a turn of the check's loop
pub turn : (s : Bool) (f : ℕ → Bool) (i : ℕ) (ok r : Bool) → ok ≡ (s && every_below i f) → r ≡ f i → (ok && r) ≡ (s && every_below (i + 1) f)
unfolding every_below
turn s f i ok r p q = rw (p, q, add-one i) (and_assoc s (every_below i f) (f i))

-- the tests of what all share, and those of port k, with numbers that are made of the ports that they look at where there are such ports
module _ (t : Table) where
  pub shared-sound : (s : Shared) (m : ℕ) → s ≡ t.shared → (s.word.owner < t.shared.d → m ≡ (port_at t s.word.owner).made)
      → shared_good s m ≡ shared_good t.shared (port_at t t.shared.word.owner).made
  shared-sound s m q f = rw q (shared-made t.shared m _ (λ l. rw q at f l))

  module _ (k : ℕ) (s : Shared) (q : Port) (c : Copies) (a b : ℕ) (h : k < t.shared.d) (r : s ≡ t.shared) (x : q ≡ port_at t k) (y : c ≡ copies_at t k)
      (f : q.work.seenowner < t.shared.d → a ≡ (port_at t q.work.seenowner).made) (g : q.work.candidate < t.shared.d → b ≡ (port_at t q.work.candidate).made) where
    pub port-sound : port_tests s k q c a b ≡ place_good t k
    unfolding place_good
    port-sound =
        rw (r, x, y)
        (port-whole t.shared k (port_at t k) (copies_at t k) a b
        ∙ rw (
          lt-ltb k t.shared.d h,
          work-made t.shared.d (port_at t k).point (port_at t k).made a (port_at t (port_at t k).work.seenowner).made b
              (port_at t (port_at t k).work.candidate).made
              (port_at t k).work
              (rw x at f)
              (rw x at g),
        ))

    -- what is bad after port k, where D is in range
    pub port-bad : (bad : Fault) → size_good t.shared.d ≡ true → cond (size_good s.d) (foldl lower bad (port_rules s k q c a b)) bad ≡ foldl lower bad (rules_at t k)
    port-bad bad z =
        rw (r, x, y, z)
        (ap (λ (rs : List Rule). foldl lower bad rs) (port-any t.shared k (port_at t k) (copies_at t k) a _ b _ (rw x at f) (rw x at g)))

-- a table that the bytes of an image of d ports stand for
module _ (t : Table) (bs : List ℕ) (d : ℕ) (p : 0 < d) (e : d ≡ ports_in bs) (v : held d bs ≡ t) where
  pub seen-d : t.shared.d ≡ d
  seen-d = ap (λ (t : Table). t.shared.d) (sym v) ∙ d-held d bs

  pub seen-port : (k : ℕ) → k < t.shared.d → port_of (there port_widths (port_place k) bs) ≡ port_at t k
  seen-port k h = port-held bs d e p k (rw seen-d at h) ∙ ap (λ (t : Table). port_at t k) v

  pub seen-copies : (k : ℕ) → k < t.shared.d → copies_of (there (copies_widths d) (copies_place d k) bs) ≡ copies_at t k
  seen-copies k h = copies-held bs d e p k (rw seen-d at h) ∙ ap (λ (t : Table). copies_at t k) v

  pub seen-size : size_good t.shared.d ≡ true
  unfolding size_good
  seen-size = rw (seen-d, le-leb 1 d p, le-leb d room (held_fits bs d e p))

  pub seen-good : (s ok : Bool) → s ≡ shared_good t.shared (port_at t t.shared.word.owner).made → ok ≡ (s && every_below d (place_good t)) → ok ≡ good t
  seen-good s ok a b = good-held d bs s ok p (held_fits bs d e p) (rw (sym v) at a) (rw (sym v) at b) ∙ ap good v

  -- what is bad in the table as a whole and in what all share
  pub seen-bad : (s : Shared) (m : ℕ) → s ≡ t.shared → (s.word.owner < t.shared.d → m ≡ (port_at t s.word.owner).made)
      → foldl lower nowhere (shared_rules true s m) ≡ bad_below t 0
  unfolding ports_rules
  seen-bad s m q f =
      let r : room_empty t ≡ true = ap room_empty (sym v) ∙ room-held d bs in
      rw (q, r)
      (ap (λ (rs : List Rule). foldl lower nowhere rs) (shared-any true t.shared m _ (λ l. rw q at f l))
      ∙ sym (bad-append nowhere (shared_rules true t.shared _) []))

-- D of an image as an option
pub some-ports : (n d : ℕ) → some_ports n ≡ Some d → (d ≡ n) × (0 < d)
unfolding some_ports
some-ports n d e = go (eqb n 0) refl
  where
    go : (b : Bool) → eqb n 0 ≡ b → (d ≡ n) × (0 < d)
    go true q = let f : None ≡ Some d = rw q at e in cc
    go false q =
        let f : Some n ≡ Some d = rw q at e in
        let z : n ≡ d = cc in
        (sym z, omega (arith, z, pos_of_ne-zero (eqb-false n 0 q)))

pub no-ports : (n : ℕ) → some_ports n ≡ None → 0 ≡ n
unfolding some_ports
no-ports n e = go (eqb n 0) refl
  where
    go : (b : Bool) → eqb n 0 ≡ b → 0 ≡ n
    go true q = sym (eqb-true n 0 q)
    go false q = let f : Some n ≡ None = rw q at e in cc

-- the reader's answer: to bytes that are no image, to a bad table, and to a good one
module _ (bs : List ℕ) where
  pub reads_none : 0 ≡ ports_in bs → (decode bs).answer ≡ BadImage
  unfolding decode ports_in
  reads_none e = go (is_image bs) refl
    where
      go : (b : Bool) → is_image bs ≡ b → (decode bs).answer ≡ BadImage
      go true q =
          let z : 0 ≡ d_in bs = e ∙ rw q in
          absurd (omega (arith, z, (image-tests bs q).some))
      go false q = rw q

  pub reads-bad : (d : ℕ) → d ≡ ports_in bs → 0 < d → good (held d bs) ≡ false → (decode bs).answer ≡ BadTable (bad_in (held d bs))
  unfolding decode
  reads-bad d e p g = let i = is-image bs d e p in rw (i.0, ← i.1, g)

  pub reads-good : (d : ℕ) → d ≡ ports_in bs → 0 < d → good (held d bs) ≡ true → (decode bs).answer ≡ Done
  unfolding decode
  reads-good d e p g = let i = is-image bs d e p in rw (i.0, ← i.1, g)

  pub checks-none : 0 ≡ ports_in bs → checked bs ≡ Err BadImage
  unfolding checked
  checks-none e = rw (reads_none e)

  pub checks-bad : (d : ℕ) → d ≡ ports_in bs → 0 < d → good (held d bs) ≡ false → checked bs ≡ Err (BadTable (bad_in (held d bs)))
  unfolding checked
  checks-bad d e p g = rw (reads-bad d e p g)

  pub checks-good : (d : ℕ) → d ≡ ports_in bs → 0 < d → good (held d bs) ≡ true → checked bs ≡ Ok d
  unfolding checked
  checks-good d e p g = rw (reads-good d e p g) (ap Ok (sym (is-image bs d e p).1))

  -- the same of a table that is not good, from D as an option
  pub checks_refused : (d : ℕ) → some_ports (ports_in bs) ≡ Some d → good (held d bs) ≡ false → Err (BadTable (bad_in (held d bs))) ≡ checked bs
  checks_refused d e g = let p = some-ports (ports_in bs) d e in sym (checks-bad d p.0 p.1 g)
