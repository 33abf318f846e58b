-- What is read of a record that the bytes have, and of one that they end before.
use Rattle.std.specs.Prelude.{◌≡◌, Bool, List, [], ◌∷◌, ◌++◌, ℕ, ◌+◌, ◌-◌, ◌*◌, ◌≤◌, ◌<◌, length, take, drop}
use Rattle.std.proofs.Math.Path.{refl}
use Rattle.std.proofs.Common.{sym, ap, ◌∙◌, append-nil, drop_of_length-le, arith, length-drop, leb-true, leb-false, le-leb}
use Rattle.std.proofs.Math.Seq.{take-length}
use Rattle.std.proofs.Math.Bool.{true, false}
use Rattle.std.proofs.Math.Nat.{one-le-pow}
use Rattle.std.proofs.lemmas.Bool.{lt-leb}
use Rattle.std.proofs.Math.Dec.{leb}
use Rattle.std.proofs.Math.ListN.{replicate}
use Rattle.std.proofs.lemmas.List.{length-replicate}
use Rattle.std.proofs.lemmas.List.Edits.{sets, sets-eq}
use Rattle.model.specs.Bytes.{Bytes, sum, pack, unpack}
use Rattle.model.specs.declared.Copies.{Copies}
use Rattle.model.specs.Layout.{set_width, copies_widths, copies_of}
use Rattle.layout.specs.Widths.{narrow, narrow-replicate, sum-replicate}
use Rattle.layout.specs.Laws.Digits.{bytes_drop}
use Rattle.layout.specs.Laws.Records.{Fits, length-unpack, unpack-fits, unpack-packed}
use Rattle.records.specs.Records.{there, put_at, filled}

-- whether a record of so many bytes lies inside, as the code tests it
pub past_end : (bytes at long : ℕ) → bytes < long → leb (at + long) bytes ≡ false
past_end bytes at long h = lt-leb (at + long) bytes (omega (arith, h))

pub before-end : (bytes at long : ℕ) → long ≤ bytes → leb at (bytes - long) ≡ leb (at + long) bytes
before-end bytes at long h = go (leb (at + long) bytes) refl
  where
    go : (b : Bool) → leb (at + long) bytes ≡ b → leb at (bytes - long) ≡ b
    go true e = le-leb at (bytes - long) (omega (arith, h, leb-true (at + long) bytes e))
    go false e = lt-leb at (bytes - long) (omega (arith, h, leb-false (at + long) bytes e))

-- the bytes from a place on, as a slice of them to their end
pub rest-all : (at : ℕ) (bs : List ℕ) → take (length bs - at) (drop at bs) ≡ drop at bs
rest-all at bs = rw (← length-drop at bs) (take-length (drop at bs))

-- a record that lies inside the bytes
pub there-inside : (ws : List ℕ) (at : ℕ) (bs : List ℕ) → at + sum ws ≤ length bs → there ws at bs ≡ unpack ws (drop at bs)
unfolding there
there-inside ws at bs h = rw (le-leb (at + sum ws) (length bs) h)

pub put-inside : (ws vs : List ℕ) (at : ℕ) (bs : List ℕ) → at + sum ws ≤ length bs → put_at ws vs at bs ≡ sets bs at (pack ws vs)
unfolding put_at
put-inside ws vs at bs h = rw (le-leb (at + sum ws) (length bs) h)

-- a record that the bytes end before
pub there-outside : (ws : List ℕ) (at : ℕ) (bs : List ℕ) → length bs < at + sum ws → there ws at bs ≡ []
unfolding there
there-outside ws at bs h = rw (lt-leb (at + sum ws) (length bs) h)

pub put-outside : (ws vs : List ℕ) (at : ℕ) (bs : List ℕ) → length bs < at + sum ws → put_at ws vs at bs ≡ bs
unfolding put_at
put-outside ws vs at bs h = rw (lt-leb (at + sum ws) (length bs) h)

-- a record put into a list of its length is the list
pub sets-whole : (l xs : List ℕ) → length l ≡ length xs → sets l 0 xs ≡ xs
sets-whole l xs e =
    let h : length l ≤ 0 + length xs = omega (arith, e) in
    sets-eq xs l 0 (omega (arith, e)) ∙ ap (λ (k : List ℕ). xs ++ k) (drop_of_length-le l h) ∙ append-nil xs

-- a record got: its values are those that the bytes stand for
pub got : (ws bs l v : List ℕ) → length l ≡ length ws → v ≡ sets l 0 (unpack ws bs) → v ≡ unpack ws bs
got ws bs l v h e = e ∙ sets-whole l (unpack ws bs) (h ∙ sym (length-unpack ws bs))

-- zeros fit any widths
zeros-fit : (ws : List ℕ) → Fits ws (replicate (length ws) 0)
zeros-fit [] = tt
zeros-fit (w ∷ ws) = (one-le-pow w 256 (omega arith), zeros-fit ws)

-- what a function makes of a record, where it makes the same of zeros as of no values: of the values as they are, and as their widths keep them
module _ {A : Type 0} (of : List ℕ → A) (ws : List ℕ) (none : of (replicate (length ws) 0) ≡ of []) (at : ℕ) (bs v : List ℕ)
    (e : v ≡ filled (length ws) (there ws at bs)) where
  pub made : of v ≡ of (there ws at bs)
  unfolding there filled
  made = go (leb (at + sum ws) (length bs)) refl
    where
      go : (b : Bool) → leb (at + sum ws) (length bs) ≡ b → of v ≡ of (there ws at bs)
      go true q = rw q (ap of (got ws (drop at bs) (replicate (length ws) 0) v (length-replicate (length ws) 0) (rw q at e)))
      go false q = rw q (ap of (rw q at e) ∙ none)

  pub kept : Bytes bs → of (unpack ws (pack ws v)) ≡ of (there ws at bs)
  unfolding there filled
  kept f = go (leb (at + sum ws) (length bs)) refl
    where
      go : (b : Bool) → leb (at + sum ws) (length bs) ≡ b → of (unpack ws (pack ws v)) ≡ of (there ws at bs)
      go true q =
          let g = got ws (drop at bs) (replicate (length ws) 0) v (length-replicate (length ws) 0) (rw q at e) in
          rw (q, g) (ap of (unpack-packed ws (unpack ws (drop at bs)) (unpack-fits ws (drop at bs) (bytes_drop at bs f))))
      go false q =
          let g : v ≡ replicate (length ws) 0 = rw q at e in
          rw (q, g) (ap of (unpack-packed ws (replicate (length ws) 0) (zeros-fit ws)) ∙ none)

-- the copy sets of a port, of what is read in three fields as wide as D asks
pub copies-read : (d at : ℕ) (bs v : List ℕ) → v ≡ filled 3 (there (replicate 3 (set_width d)) at bs) → copies_of v ≡ copies_of (there (copies_widths d) at bs)
unfolding copies_widths copies_of
copies-read d at bs v e = made copies_of (copies_widths d) refl at bs v e

-- three fields of w bytes
pub three-long : (w : ℕ) → 3 * w ≡ sum (w ∷ w ∷ w ∷ [])
three-long w = sum-replicate 3 w

pub three-narrow : (w : ℕ) → w ≤ 8 → narrow (w ∷ w ∷ w ∷ []) ≡ true
three-narrow w h = narrow-replicate 3 w h

-- what the goals of reading the copy sets of a port are proved by, whatever their names
pub ruleset reading = (copies-read, three-long, three-narrow)
