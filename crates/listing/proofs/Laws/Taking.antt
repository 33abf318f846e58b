-- A run's loop over a piece of input: what is still to do gives what the definitions say of the whole piece.
use Rattle.std.specs.Prelude.{◌≡◌, ℕ, suc, ◌+◌, ◌-◌, ◌<◌, ◌≤◌, leb, Bool, true, false, ◌&&◌, List, [], ◌∷◌, ◌++◌, length, drop, nat_le, slice_index, refl}
use Rattle.std.proofs.Common.{sym, ap, ◌∙◌, add-zero, add-one, arith, le-leb, length-append, drop_of_length-le, drop-cons}
use Rattle.std.proofs.lemmas.Bool.{lt-leb}
use Rattle.std.proofs.Math.Nat.{sub-zero}
use Rattle.std.proofs.lemmas.List.Edits.{sets}
use Rattle.std.proofs.Math.Seq.{length-sets}
use Rattle.model.proofs.Laws.Tests.{split}
use Rattle.listing.specs.declared.Run.{Run}
use Rattle.lines.specs.declared.Act.{Act}
use Rattle.listing.specs.declared.Fed.{Fed}
use Rattle.lines.specs.Reading.{act, live}
use Rattle.listing.specs.Feed.{acted, feeding}
use Rattle.listing.specs.Turn.{after}
use Rattle.text.specs.Text.{longest}
use Rattle.text.specs.Parts.{fitting}
use Rattle.text.specs.Laws.Put.{Put, sets-append}
use Rattle.text.specs.Laws.Room.{whole-line}

-- where nothing is printed nothing is put
pub put-nothing : (out : List ℕ) (at : ℕ)
    → (at ≡ at + length (fitting (length out) at [])) × ((out ≡ sets out at (fitting (length out) at [])) × (at ≤ at + longest))
put-nothing out at =
    split (λ (text : List ℕ). (at ≡ at + length text) × ((out ≡ sets out at text) × (at ≤ at + longest))) (leb (at + longest) (length out)) [] []
    (λ e. (sym (add-zero at), (refl, omega arith)))
    (λ e. (sym (add-zero at), (refl, omega arith)))

-- a turn that does what the definitions say of its byte
abbrev pub Turned : Run → ℕ → List ℕ → ℕ → Run → ℕ → List ℕ → Type 0
Turned r b out at s w exit =
    (s ≡ (after r b).0) × (w ≡ at + length (fitting (length out) at (after r b).1))
    × (exit ≡ sets out at (fitting (length out) at (after r b).1)) × (w ≤ at + longest)

module _ (r : Run) (b at : ℕ) (out : List ℕ) where
  pub turned : {s : Run} {w : ℕ} {exit : List ℕ} (a : Act) → act r.stage r.part b ≡ a
      → s ≡ (acted r a).0
      → w ≡ at + length (fitting (length out) at (acted r a).1)
      → exit ≡ sets out at (fitting (length out) at (acted r a).1)
      → w ≤ at + longest
      → Turned r b out at s w exit
  turned a h p q e l = rw h (p, q, e, l)

  -- one that prints nothing puts nothing
  pub silent : {s : Run} (a : Act) → act r.stage r.part b ≡ a → s ≡ (acted r a).0 → (acted r a).1 ≡ [] → Turned r b out at s at out
  silent a h p e = let n = put-nothing out at in turned a h p (rw e n.0) (rw e n.1.0) n.1.1

-- one byte more
next-byte : (room : ℕ) (r : Run) (input : List ℕ) (i : ℕ) → i < length input → longest ≤ room → live r.stage ≡ true
    → let a = acted r (act r.stage r.part (slice_index input i)) in
    let g = feeding (room - length a.1) a.0 (drop (i + 1) input) in
    feeding room r (drop i input)
    ≡ (record { run = g.0.run; taken = suc g.0.taken; written = length a.1 + g.0.written }, a.1 ++ g.1)
unfolding feeding
next-byte room r input i h l v = rw (drop-cons input i 0 h, le-leb longest room l, v, add-one i)

-- there is no room, or the run is at its end
pub no-room : (n : ℕ) (v : Bool) → n < longest → (nat_le longest n && v) ≡ false
no-room n v h = rw (lt-leb longest n h)

pub over : (n : ℕ) (v : Bool) → v ≡ false → (nat_le longest n && v) ≡ false
over n v h = rw h (go (nat_le longest n))
  where
    go : (b : Bool) → (b && false) ≡ false
    go true = refl
    go false = refl

-- no byte more: the piece is used up, there is no room, or the run is at its end
used-up : (room : ℕ) (r : Run) (input : List ℕ) → feeding room r (drop (length input) input) ≡ (record { run = r; taken = 0; written = 0 }, [])
unfolding feeding
used-up room r input = rw (drop_of_length-le input {i = length input} (omega arith))

no_byte : (room : ℕ) (r : Run) (input : List ℕ) (i : ℕ) → i < length input → (nat_le longest room && live r.stage) ≡ false
    → feeding room r (drop i input) ≡ (record { run = r; taken = 0; written = 0 }, [])
unfolding feeding
no_byte room r input i l h = rw (drop-cons input i 0 l, h)

-- the loop over `input`, from the run r₀ and the buffer out₀, with the run r, the buffer out, and so many bytes taken and written
pub record Taking (input out₀ : List ℕ) (r₀ : Run) (out : List ℕ) (r : Run) (taken written : ℕ) : Type 0 where
  pub upto : taken ≤ length input
  pub inside : written ≤ length out₀
  pub long : length out ≡ length out₀
  pub run : (feeding (length out₀ - written) r (drop taken input)).0.run ≡ (feeding (length out₀) r₀ input).0.run
  pub count : taken + (feeding (length out₀ - written) r (drop taken input)).0.taken ≡ (feeding (length out₀) r₀ input).0.taken
  pub size : written + (feeding (length out₀ - written) r (drop taken input)).0.written ≡ (feeding (length out₀) r₀ input).0.written
  pub bytes : sets out written (feeding (length out₀ - written) r (drop taken input)).1 ≡ sets out₀ 0 (feeding (length out₀) r₀ input).1

module _ (input out₀ : List ℕ) (r₀ : Run) where
  pub begins : Taking input out₀ r₀ out₀ r₀ 0 0
  begins =
      record {
        upto = omega arith;
        inside = omega arith;
        long = refl;
        run = rw (sub-zero (length out₀));
        count = rw (sub-zero (length out₀)) (omega arith);
        size = rw (sub-zero (length out₀)) (omega arith);
        bytes = rw (sub-zero (length out₀));
      }

  -- a byte that is taken, and what it prints put where there is room
  -- a byte that is taken, and what it prints put where there is room
  pub turns : {out exit : List ℕ} {r s : Run} {taken written w b : ℕ}
      → taken < length input
      → longest ≤ length out - written
      → live r.stage ≡ true
      → b ≡ slice_index input taken
      → Turned r b out written s w exit
      → Taking input out₀ r₀ out r taken written
      → Taking input out₀ r₀ exit s (taken + 1) w
  turns {out} {exit} {r} {s} {taken} {written} {w} {b} h l v e u t =
      let x = (after r b).1 in
      let p : Put out written x longest w exit = whole-line (omega (arith, l, t.inside, t.long)) (u.1, (u.2, u.3)) in
      let g = feeding (length out₀ - w) s (drop (taken + 1) input) in
      let d : length out₀ - written - length x ≡ length out₀ - w = omega (arith, p.place) in
      let n : feeding (length out₀ - written) r (drop taken input)
      ≡ (record { run = g.0.run; taken = suc g.0.taken; written = length x + g.0.written }, x ++ g.1) =
      rw (u.0, ← d, e) (next-byte (length out₀ - written) r input taken h (rw t.long at l) v) in
      record {
        upto = omega (arith, h);
        inside = omega (arith, l, p.place, p.short, t.inside, t.long);
        long = ap length p.bytes ∙ length-sets out written x ∙ t.long;
        run = rw n at t.run;
        count = omega (arith, rw n at t.count);
        size = omega (arith, rw n at t.size, p.place);
        bytes =
            ap (λ (y : List ℕ). sets y w g.1) p.bytes
            ∙ ap (λ (k : ℕ). sets (sets out written x) k g.1) p.place
            ∙ sets-append x g.1 out written
            ∙ (rw n at t.bytes);
      }

  -- the run stops: the piece is used up, there is no room, or the run is at its end
  pub stops : (out : List ℕ) (r : Run) (taken written : ℕ)
      → feeding (length out₀ - written) r (drop taken input) ≡ (record { run = r; taken = 0; written = 0 }, [])
      → Taking input out₀ r₀ out r taken written
      → (record { run = r; taken = taken; written = written } ≡ (feeding (length out₀) r₀ input).0)
      × (out ≡ sets out₀ 0 (feeding (length out₀) r₀ input).1)
  stops out r taken written n t =
      let c : taken ≡ (feeding (length out₀) r₀ input).0.taken = omega (arith, rw n at t.count) in
      let s : written ≡ (feeding (length out₀) r₀ input).0.written = omega (arith, rw n at t.size) in
      (fed (rw n at t.run) c s, rw n at t.bytes)
    where
      fed : {a b : Run} {m n u v : ℕ} → a ≡ b → m ≡ n → u ≡ v
          → ◌≡◌ {A = Fed} (record { run = a; taken = m; written = u }) (record { run = b; taken = n; written = v })
      fed p q e = rw (p, q, e)

  pub ends : (out : List ℕ) (r : Run) (taken written : ℕ) → length input ≤ taken → Taking input out₀ r₀ out r taken written
      → (record { run = r; taken = length input; written = written } ≡ (feeding (length out₀) r₀ input).0)
      × (out ≡ sets out₀ 0 (feeding (length out₀) r₀ input).1)
  ends out r taken written h t =
      let e : taken ≡ length input = omega (arith, h, t.upto) in
      stops out r (length input) written (used-up (length out₀ - written) r input) (rw e at t)

  pub breaks_off : (out : List ℕ) (r : Run) (taken written : ℕ) → taken < length input
      → (nat_le longest (length out₀ - written) && live r.stage) ≡ false
      → Taking input out₀ r₀ out r taken written
      → (record { run = r; taken = taken; written = written } ≡ (feeding (length out₀) r₀ input).0)
      × (out ≡ sets out₀ 0 (feeding (length out₀) r₀ input).1)
  breaks_off out r taken written l h t = stops out r taken written (no_byte (length out₀ - written) r input taken l h) t

-- a byte is taken where there is one, room, and a run that is not at its end
pub takes : (room : ℕ) (r : Run) (b : ℕ) (bs : List ℕ) → longest ≤ room → live r.stage ≡ true → 1 ≤ (feeding room r (b ∷ bs)).0.taken
unfolding feeding
takes room r b bs l v = rw (le-leb longest room l, v) (omega arith)

-- as many bytes are written as the text has
pub writes : (room : ℕ) (r : Run) (piece : List ℕ) → (feeding room r piece).0.written ≡ length (feeding room r piece).1
unfolding feeding
writes room r [] = refl
writes room r (b ∷ bs) =
    let a = acted r (act r.stage r.part b) in
    let g = feeding (room - length a.1) a.0 bs in
    split (λ (f : Fed × List ℕ). f.0.written ≡ length f.1) (nat_le longest room && live r.stage)
    (record { run = g.0.run; taken = suc g.0.taken; written = length a.1 + g.0.written }, a.1 ++ g.1)
    (record { run = r; taken = 0; written = 0 }, [])
    (λ e. ap (λ (k : ℕ). length a.1 + k) (writes (room - length a.1) a.0 bs) ∙ sym (length-append a.1 g.1))
    (λ e. refl)
