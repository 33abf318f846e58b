-- What a run prints of an input, whatever the pieces and the rooms: the listing.
use Rattle.std.specs.Prelude.{◌≡◌, ℕ, suc, ◌+◌, ◌-◌, ◌%◌, ◌<◌, ◌≤◌, true, false, ◌&&◌, List, [], ◌∷◌, ◌++◌, length, drop, ◌==◌, nat_le, refl}
use Rattle.std.proofs.Common.{sym, ◌∙◌, true≢false, append-nil, append_assoc, arith, eq-eqb}
use Rattle.std.proofs.Math.Path.{ap}
use Rattle.std.proofs.Math.Bool.{and-eq-true_iff}
use Rattle.std.proofs.Math.Seq.{append_snoc}
use Rattle.model.specs.declared.Table.{Table}
use Rattle.model.specs.Table.{Sized, size_good}
use Rattle.model.specs.Good.{good}
use Rattle.model.specs.Event.{fresh}
use Rattle.model.specs.Run.{order}
use Rattle.model.specs.Paid.{paid_event}
use Rattle.model.proofs.Laws.Tests.{split}
use Rattle.model.proofs.Laws.After.{after-sized}
use Rattle.model.proofs.Laws.Kept.{good-after, made-good, made-sized}
use Rattle.model.proofs.Laws.Paid.{paid-event}
use Rattle.lines.specs.declared.Part.{Part}
use Rattle.lines.specs.declared.Stage.{Stage}
use Rattle.lines.specs.declared.Stage.TheVariants.{Opening, Running, Over}
use Rattle.lines.specs.declared.Act.{Act}
use Rattle.lines.specs.declared.Act.TheVariants.{Keep, Open, Order, Bad}
use Rattle.listing.specs.declared.Run.{Run}
use Rattle.listing.specs.declared.Fed.{Fed}
use Rattle.lines.specs.Line.{newline, letter, well_formed, number, opens, lines}
use Rattle.text.specs.Text.{longest, bad}
use Rattle.listing.specs.Listing.{listed, opened}
use Rattle.lines.specs.Reading.{act, live}
use Rattle.listing.specs.Feed.{run_at, acted, feeding}
use Rattle.lines.specs.Laws.Lines.{rest_of_line, first-line}
use Rattle.lines.specs.Laws.Told.{bytes_of, Fair, fits, whole, Told}
use Rattle.lines.specs.Laws.Parts.{fair-clear, told}

-- what a run prints from here on: the lines of what it has read of a line and of what is left of the input
abbrev pub rest_by : Stage → Table → ℕ → List (List ℕ) → List ℕ
rest_by Opening t n ls = opened ls
rest_by Running t n ls = listed t n ls
rest_by Over t n ls = []

abbrev pub rest : Run → List ℕ → List ℕ
rest r input = rest_by r.stage r.table r.number (lines (bytes_of r.part ++ input))

-- before its first line a run is at line 0
abbrev pub First : Stage → ℕ → Type 0
First Opening n = n ≡ 0
First Running n = Unit {0}
First Over n = Unit {0}

-- the table of a run that its own calls can give: a good one
pub record Sure (t : Table) : Type 0 where
  pub sized : Sized t
  pub sound : good t ≡ true

pub sure-fresh : (d : ℕ) → Sure (fresh d).table
sure-fresh d = record { sized = made-sized d; sound = made-good d }

sure-order : (t : Table) (k e : ℕ) → Sure t → Sure (paid_event t k e).table
sure-order t k e y =
    rw (paid-event t k e y.sound)
    (record { sized = after-sized t (order k e) y.sized; sound = good-after t (order k e) y.sized y.sound })

-- a byte and what a run does with it: what is printed now and later is what was to be printed
record Step (r : Run) (b : ℕ) (bs : List ℕ) (a : Act) : Type 0 where
  text : rest r (b ∷ bs) ≡ (acted r a).1 ++ rest (acted r a).0 bs
  fair : Fair (acted r a).0.part
  first : First (acted r a).0.stage (acted r a).0.number
  count : (acted r a).0.number ≤ r.number + 1
  sure : Sure (acted r a).0.table

module _ (t : Table) (n : ℕ) (p : Part) (b : ℕ) (bs : List ℕ) (f : Fair p) (h : n + 1 < 18446744073709551616) (y : Sure t) where
  after-keep : (s : Stage) (q : Part) → Told s p b (Keep q) → First s n → Step (run_at t n p s) b bs (Keep q)
  unfolding acted
  after-keep s q d i =
      record {
        text = ap (λ (xs : List ℕ). rest_by s t n (lines xs)) (sym (append_snoc (bytes_of p) b bs) ∙ ap (λ (xs : List ℕ). xs ++ bs) (sym d.0));
        fair = d.1;
        first = i;
        count = omega arith;
        sure = y;
      }

  -- the line that the byte stands in, malformed
  malformed : (s : Stage) → Told s p b Bad → fits s (bytes_of p ++ b ∷ rest_of_line b bs) ≡ false
  malformed s d = d (rest_of_line b bs) (λ e. rw (eq-eqb b newline e))

  after-bad : (s : Stage) → live s ≡ true → Told s p b Bad → First s n → Step (run_at t n p s) b bs Bad
  unfolding acted opened listed
  after-bad Opening v d i =
      record {
        text = rw (first-line (bytes_of p) b bs (fair-clear p f), malformed Opening d, i) (sym (append-nil (bad 0)));
        fair = f;
        first = tt;
        count = omega arith;
        sure = y;
      }
  after-bad Running v d i =
      record {
        text = rw (first-line (bytes_of p) b bs (fair-clear p f), malformed Running d) (sym (append-nil (bad n)));
        fair = f;
        first = tt;
        count = omega arith;
        sure = y;
      }
  after-bad Over v d i = absurd (true≢false (sym v))

  -- the line that the byte ends, and the lines after it
  ended-line : b ≡ newline → lines (bytes_of p ++ b ∷ bs) ≡ whole p ∷ lines bs
  ended-line e = rw e (first-line (bytes_of p) newline bs (fair-clear p f))

  after_open : (m : ℕ) → Told Opening p b (Open m) → Step (run_at t n p Opening) b bs (Open m)
  unfolding acted opened opens fresh
  after_open m d =
      let g = ((and-eq-true_iff (well_formed (whole p) && letter (whole p) == 68) (size_good (number (whole p)))).0 d.1).1 in
      record {
        text = rw (ended-line d.0, d.1, d.2, rw d.2 at g);
        fair = tt;
        first = tt;
        count = omega arith;
        sure = sure-fresh m;
      }

  after-order : (l e m : ℕ) → Told Running p b (Order l e m) → Step (run_at t n p Running) b bs (Order l e m)
  unfolding acted listed
  after-order l e m d =
      let k : (n + 1) % 18446744073709551616 ≡ n + 1 = omega (arith, h) in
      record {
        text = rw (ended-line d.0, d.1, d.2, d.3, d.4, k, paid-event t m e y.sound);
        fair = tt;
        first = tt;
        count = omega (arith, k);
        sure = sure-order t m e y;
      }

  after-act : (s : Stage) (a : Act) → live s ≡ true → Told s p b a → First s n → Step (run_at t n p s) b bs a
  after-act s (Keep q) v d i = after-keep s q d i
  after-act s Bad v d i = after-bad s v d i
  after-act Opening (Open m) v d i = after_open m d
  after-act Running (Open m) v d i = absurd d
  after-act Over (Open m) v d i = absurd d
  after-act Opening (Order l e m) v d i = absurd d
  after-act Running (Order l e m) v d i = after-order l e m d
  after-act Over (Order l e m) v d i = absurd d

-- a run that its own calls can give: a part of a line that reading gives, line 0 before the first line, and a good table
pub record Ready (r : Run) : Type 0 where
  pub fair : Fair r.part
  pub first : First r.stage r.number
  pub sure : Sure r.table

-- a piece of input, with more to come: what it prints and what is printed later is what was to be printed
pub record Passed (r : Run) (piece more : List ℕ) (g : Fed × List ℕ) : Type 0 where
  pub text : rest r (piece ++ more) ≡ g.1 ++ rest g.0.run (drop g.0.taken piece ++ more)
  pub ready : Ready g.0.run
  pub count : g.0.run.number ≤ r.number + g.0.taken
  pub upto : g.0.taken ≤ length piece

pub passes : (piece : List ℕ) (room : ℕ) (r : Run) (more : List ℕ) → Ready r → r.number + length piece < 18446744073709551616
    → Passed r piece more (feeding room r piece)
unfolding feeding
passes [] room r more y h = record { text = refl; ready = y; count = omega arith; upto = omega arith }
passes (b ∷ bs) room r more y h =
    let a = acted r (act r.stage r.part b) in
    let g = feeding (room - length a.1) a.0 bs in
    split (Passed r (b ∷ bs) more) (nat_le longest room && live r.stage)
    (record { run = g.0.run; taken = suc g.0.taken; written = length a.1 + g.0.written }, a.1 ++ g.1)
    (record { run = r; taken = 0; written = 0 }, [])
    (λ e.
    let v = ((and-eq-true_iff (nat_le longest room) (live r.stage)).0 e).1 in
    let s = after-act r.table r.number r.part b (bs ++ more) y.fair (omega (arith, h)) y.sure r.stage (act r.stage r.part b) v
    (told r.stage r.part b y.fair)
    y.first in
    let k = passes bs (room - length a.1) a.0 more (record { fair = s.fair; first = s.first; sure = s.sure }) (omega (arith, h, s.count)) in
    record {
      text =
          s.text
          ∙ ap (λ (xs : List ℕ). a.1 ++ xs) k.text
          ∙ sym (append_assoc a.1 _ _);
      ready = k.ready;
      count = omega (arith, s.count, k.count);
      upto = omega (arith, k.upto);
    })
    (λ e. record { text = refl; ready = y; count = omega arith; upto = omega arith })
