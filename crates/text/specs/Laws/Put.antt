-- What is put into a buffer: a text from a place on, and the place after it. Bytes past the buffer's end are dropped.
use Rattle.std.specs.Prelude.{◌≡◌, List, [], ◌∷◌, ◌++◌, ℕ, suc, ◌+◌, ◌≤◌, length, set}
use Rattle.std.proofs.Common.{sym, ap, ◌∙◌, add-zero, add-suc, suc-add, arith, length-append}
use Rattle.std.proofs.lemmas.List.Edits.{sets}
use Rattle.std.proofs.lemmas.List.{set_comm}
use Rattle.text.specs.declared.putting.Sheet.{Sheet}

-- places in a buffer are below this
abbrev pub limit : ℕ
limit = 9223372036854775808

pub record Put (out : List ℕ) (at : ℕ) (text : List ℕ) (most r : ℕ) (exit : List ℕ) : Type 0 where
  pub place : r ≡ at + length text
  pub short : length text ≤ most
  pub bytes : exit ≡ sets out at text

-- the same of a sheet: e is s after the text is put into the buffer that s borrows
pub record Puts (s : Sheet) (text : List ℕ) (most : ℕ) (e : Sheet) : Type 0 where
  pub same : e.out.ghost_name ≡ s.out.ghost_name
  pub put : Put s.out.now s.at text most e.at e.out.now

pub sets-append : (xs ys out : List ℕ) (i : ℕ) → sets (sets out i xs) (i + length xs) ys ≡ sets out i (xs ++ ys)
sets-append [] ys out i = ap (λ (k : ℕ). sets out k ys) (add-zero i)
sets-append (x ∷ xs) ys out i =
    ap (λ (k : ℕ). sets (sets (set out i x) (suc i) xs) k ys) (add-suc i (length xs) ∙ sym (suc-add i (length xs)))
    ∙ sets-append xs ys (set out i x) (suc i)

-- a text's last byte can be put before the others
pub last-first : (xs out : List ℕ) (i b : ℕ) → sets (set out (i + length xs) b) i xs ≡ sets out i (xs ++ b ∷ [])
last-first [] out i b = ap (λ (k : ℕ). set out k b) (add-zero i)
last-first (x ∷ xs) out i b =
    ap (λ (l : List ℕ). sets l (suc i) xs)
    (set_comm out (i + suc (length xs)) i b x (λ e. omega (arith, e)) ∙ ap (λ (k : ℕ). set (set out i x) k b) (add-suc i (length xs) ∙ sym (suc-add i (length xs))))
    ∙ last-first xs (set out i x) (suc i) b

-- one text after another
pub and_then : {out exit last xs ys : List ℕ} {at r s m n : ℕ} → Put out at xs m r exit → Put exit r ys n s last
    → Put out at (xs ++ ys) (m + n) s last
and_then {out} {exit} {last} {xs} {ys} {at} {r} {s} {m} {n} p q =
    record {
      place = omega (arith, p.place, q.place, length-append xs ys);
      short = omega (arith, p.short, q.short, length-append xs ys);
      bytes = q.bytes ∙ (rw (p.bytes, p.place) (sets-append xs ys out at));
    }

-- a bound that is no less serves as well
pub within : {out exit xs : List ℕ} {at r m n : ℕ} → m ≤ n → Put out at xs m r exit → Put out at xs n r exit
within h p = record { place = p.place; short = omega (arith, h, p.short); bytes = p.bytes }

pub puts_then : {s t u : Sheet} {xs ys : List ℕ} {m n : ℕ} → Puts s xs m t → Puts t ys n u → Puts s (xs ++ ys) (m + n) u
puts_then p q = record { same = q.same ∙ p.same; put = and_then p.put q.put }

pub puts_within : {s e : Sheet} {xs : List ℕ} {m n : ℕ} → m ≤ n → Puts s xs m e → Puts s xs n e
puts_within h p = record { same = p.same; put = within h p.put }

-- once the borrow ends, the buffer is what the sheet left
pub handed_back : {s e : Sheet} {xs out : List ℕ} {m : ℕ} → Puts s xs m e → (s.out.ghost_name ≡ e.out.ghost_name → out ≡ e.out.now)
    → Put s.out.now s.at xs m e.at out
handed_back p f = let q = p.put in record { place = q.place; short = q.short; bytes = f (sym p.same) ∙ q.bytes }
