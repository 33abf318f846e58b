-- What a run does with a byte is what the line's definition says.
use Rattle.std.specs.Prelude.{◌≡◌, Bool, cond, ◌&&◌, ◌||◌, ℕ, suc, ◌+◌, ◌-◌, ◌*◌, ◌/◌, ◌%◌, ◌≤◌, ◌<◌, eqb, ltb, leb, length, get_or}
use Rattle.std.proofs.Math.Path.{refl}
use Rattle.std.proofs.Math.Bool.{true, false, and-eq-true_iff}
use mathlib.Core.List.{List, [], ◌∷◌, ◌++◌, foldr, drop_last, get_last_d}
use Rattle.std.proofs.Common.{arith}
use borrow.Author.Tests.{ne_eqb, eqb-true, lt-ltb, le-ltb, ltb-true, ltb-false, leb-true, le-leb, lt-leb}
use Rattle.model.specs.Table.{size_good}
use Rattle.model.proofs.Laws.Tests.{split}
use Rattle.lines.specs.declared.Part.{Part}
use Rattle.lines.specs.declared.Part.TheVariants.{Nothing, Letter, Space, Number}
use Rattle.lines.specs.declared.Stage.{Stage}
use Rattle.lines.specs.declared.Stage.TheVariants.{Opening, Running, Over}
use Rattle.lines.specs.declared.Act.TheVariants.{Keep, Open, Order, Bad}
use Rattle.lines.specs.Line.{newline, space, nought, digit, letter, digits, number, well_formed, event_of, opens, orders}
use Rattle.lines.specs.Reading.{line_act, act}
use Rattle.lines.specs.Laws.Told.{shown, bytes_of, Fair, fits, whole, Told}
use Rattle.lines.specs.Laws.Lines.{Clear}

-- tests together
never : (a : Bool) → (a && false) ≡ false
never true = refl
never false = refl

both : {a b : Bool} → a ≡ true → b ≡ true → (a && b) ≡ true
both {a} {b} h k = rw (h, k)

-- a number goes on where it is neither 0 nor of three digits
pub going_on : (a : Bool) (n : ℕ) → (a && ltb 0 n && ltb n 100) ≡ true → (a ≡ true) × (0 < n) × (n < 100)
going_on a n h =
    let p = (and-eq-true_iff (a && ltb 0 n) (ltb n 100)).0 h in
    let q = (and-eq-true_iff a (ltb 0 n)).0 p.0 in
    (q.0, ltb-true 0 n q.1, ltb-true n 100 p.1)

-- the digits of a number are one, two or three
by_size : (P : List ℕ → Type 0) (n : ℕ)
    → (n < 10 → P ((nought + n) ∷ []))
    → (10 ≤ n → n < 100 → P ((nought + n / 10) ∷ (nought + n % 10) ∷ []))
    → (100 ≤ n → P ((nought + n / 100) ∷ (nought + n / 10 % 10) ∷ (nought + n % 10) ∷ []))
    → P (shown n)
unfolding shown
by_size P n f g h =
    split P (ltb n 10) _ _
    (λ e. f (ltb-true n 10 e))
    (λ e. split P (ltb n 100) _ _ (λ d. g (ltb-false n 10 e) (ltb-true n 100 d)) (λ d. h (ltb-false n 100 d)))

-- a digit of a value, and the value of a digit
is_digit : (x : ℕ) → x ≤ 9 → digit (nought + x) ≡ true
is_digit x h = both (le-leb nought (nought + x) (omega arith)) (le-leb (nought + x) 57 (omega arith))

of-digit : (b : ℕ) → digit b ≡ true → (nought + (b - nought) ≡ b) × (b - nought ≤ 9)
of-digit b h =
    let t = (and-eq-true_iff (leb nought b) (leb b 57)).0 h in
    let l = leb-true nought b t.0 in
    let m = leb-true b 57 t.1 in
    (omega (arith, l), omega (arith, m))

digit_clear : (x : ℕ) → eqb (nought + x) newline ≡ false
digit_clear x = ne_eqb (nought + x) newline (λ e. omega (arith, e))

shown-clear : (n : ℕ) → Clear (shown n)
shown-clear n =
    by_size Clear n
    (λ a. (digit_clear n, tt))
    (λ a b. (digit_clear (n / 10), (digit_clear (n % 10), tt)))
    (λ a. (digit_clear (n / 100), (digit_clear (n / 10 % 10), (digit_clear (n % 10), tt))))

pub fair-clear : (p : Part) → Fair p → Clear (bytes_of p)
fair-clear Nothing f = tt
fair-clear (Letter l) f = (f, tt)
fair-clear (Space l) f = (f, (refl, tt))
fair-clear (Number l n) f = (f.0, (refl, shown-clear n))

-- the first digit, and a digit more
shown-one : (n : ℕ) → n < 10 → shown n ≡ (nought + n) ∷ []
unfolding shown
shown-one n h = rw (lt-ltb n 10 h)

shown-next : (n v : ℕ) → 0 < n → n < 100 → v ≤ 9 → shown (10 * n + v) ≡ shown n ++ (nought + v) ∷ []
shown-next n v h k d =
    by_size (λ (ds : List ℕ). ds ≡ shown n ++ (nought + v) ∷ []) (10 * n + v)
    (λ a. absurd (omega arith))
    (λ a b.
    by_size (λ (es : List ℕ). (nought + (10 * n + v) / 10) ∷ (nought + (10 * n + v) % 10) ∷ [] ≡ es ++ (nought + v) ∷ []) n
    (λ c. two (omega arith) (omega arith))
    (λ c e. absurd (omega arith))
    (λ c. absurd (omega arith)))
    (λ a.
    by_size (λ (es : List ℕ). (nought + (10 * n + v) / 100) ∷ (nought + (10 * n + v) / 10 % 10) ∷ (nought + (10 * n + v) % 10) ∷ [] ≡ es ++ (nought + v) ∷ []) n
    (λ c. absurd (omega arith))
    (λ c e. three (omega arith) (omega arith) (omega arith))
    (λ c. absurd (omega arith)))
  where
    two : {a b c d : ℕ} → a ≡ c → b ≡ d → ◌≡◌ {A = List ℕ} (a ∷ b ∷ []) (c ∷ d ∷ [])
    two p q = rw (p, q)

    three : {a b c d e f : ℕ} → a ≡ d → b ≡ e → c ≡ f → ◌≡◌ {A = List ℕ} (a ∷ b ∷ c ∷ []) (d ∷ e ∷ f ∷ [])
    three p q r = rw (p, q, r)

-- the digits of a number, between a letter with a space and a newline
record Ended (l n : ℕ) (line : List ℕ) : Type 0 where
  good : well_formed line ≡ true
  first : letter line ≡ l
  value : number line ≡ n

ended : (l n : ℕ) → n < 1000 → Ended l n (l ∷ space ∷ shown n ++ newline ∷ [])
unfolding well_formed letter number digits get_last_d
ended l n h =
    by_size (λ (ds : List ℕ). Ended l n (l ∷ space ∷ ds ++ newline ∷ [])) n
    (λ a. record { good = rw (is_digit n (omega arith)); first = refl; value = omega arith })
    (λ a b.
    record {
      good = rw (is_digit (n / 10) (omega arith), is_digit (n % 10) (omega arith)) (lt-ltb nought (nought + n / 10) (omega arith));
      first = refl;
      value = omega arith;
    })
    (λ a.
    record {
      good =
          rw (is_digit (n / 100) (omega arith), is_digit (n / 10 % 10) (omega arith), is_digit (n % 10) (omega arith))
          (lt-ltb nought (nought + n / 100) (omega arith));
      first = refl;
      value = omega arith;
    })

-- bytes that end with no newline
pub unended : (p : Part) → well_formed (bytes_of p) ≡ false
unfolding well_formed digits get_last_d
unended Nothing = refl
unended (Letter l) = refl
unended (Space l) = refl
unended (Number l n) =
    by_size (λ (ds : List ℕ). well_formed (l ∷ space ∷ ds) ≡ false) n
    (λ a. rw (digit_clear n))
    (λ a b. rw (digit_clear (n % 10)))
    (λ a. rw (digit_clear (n % 10)))

-- a line is malformed where its digits are not all digits, and where they are too many or the first of several is 0
module _ (line : List ℕ) where
  abbrev shape : Bool
  shape = eqb (get_or line 1 0) space && eqb (get_last_d line 0) newline

  abbrev all_digits : Bool
  all_digits = foldr (λ b rest. digit b && rest) true (digits line)

  other_byte : all_digits ≡ false → well_formed line ≡ false
  unfolding well_formed
  other_byte h = rw (h, never shape)

  other-size : (eqb (length (digits line)) 1 || (leb (length (digits line)) 3 && ltb nought (get_or (digits line) 0 0))) ≡ false
      → well_formed line ≡ false
  unfolding well_formed
  other-size h = rw h (never (shape && all_digits))

-- a byte that is neither a digit nor a newline
module _ (l b : ℕ) where
  no_digit : (ys : List ℕ) → digit b ≡ false → well_formed (l ∷ space ∷ b ∷ ys) ≡ false
  unfolding digits
  no_digit [] d = other-size (l ∷ space ∷ b ∷ []) refl
  no_digit (y ∷ ys) d = other_byte (l ∷ space ∷ b ∷ y ∷ ys) (rw d)

  -- a byte that the number does not go on with
  no_more : (n : ℕ) (ys : List ℕ) → eqb b newline ≡ false → (digit b && ltb 0 n && ltb n 100) ≡ false
      → well_formed (l ∷ space ∷ shown n ++ b ∷ ys) ≡ false
  unfolding well_formed digits get_last_d
  no_more n [] e d =
      by_size (λ (ds : List ℕ). well_formed (l ∷ space ∷ ds ++ b ∷ []) ≡ false) n
      (λ a. rw e)
      (λ a b. rw e)
      (λ a. rw e)
  no_more n (y ∷ ys) e d =
      by_size (λ (ds : List ℕ). well_formed (l ∷ space ∷ ds ++ b ∷ y ∷ ys) ≡ false) n
      (λ a. one (digit b) refl a)
      (λ a c.
      let k : digit b ≡ false = free (digit b) (rw (lt-ltb 0 n (omega arith), lt-ltb n 100 c) at d) in
      other_byte (l ∷ space ∷ (nought + n / 10) ∷ (nought + n % 10) ∷ b ∷ y ∷ ys) (rw (k, never (digit (nought + n % 10))) (never (digit (nought + n / 10)))))
      (λ a.
      other-size (l ∷ space ∷ (nought + n / 100) ∷ (nought + n / 10 % 10) ∷ (nought + n % 10) ∷ b ∷ y ∷ ys)
      (many (length (drop_last (y ∷ ys))) (ltb nought (nought + n / 100))))
    where
      free : (t : Bool) → (t && true && true) ≡ false → t ≡ false
      free true h = h
      free false h = refl

      many : (m : ℕ) (t : Bool) → (eqb (suc (suc (suc (suc m)))) 1 || (leb (suc (suc (suc (suc m)))) 3 && t)) ≡ false
      many m t = rw (ne_eqb (suc (suc (suc (suc m)))) 1 (λ q. omega (arith, q)), lt-leb (suc (suc (suc (suc m)))) 3 (omega arith))

      several : (m d : ℕ) → d ≤ nought → (eqb (suc (suc m)) 1 || (leb (suc (suc m)) 3 && ltb nought d)) ≡ false
      several m d h = rw (ne_eqb (suc (suc m)) 1 (λ q. omega (arith, q)), le-ltb nought d h) (never (leb (suc (suc m)) 3))

      one : (t : Bool) → digit b ≡ t → n < 10 → well_formed (l ∷ space ∷ (nought + n) ∷ b ∷ y ∷ ys) ≡ false
      one true k a =
          let z = ltb-false 0 n (lone (ltb 0 n) (rw (k, lt-ltb n 100 (omega arith)) at d)) in
          other-size (l ∷ space ∷ (nought + n) ∷ b ∷ y ∷ ys) (several (length (drop_last (y ∷ ys))) (nought + n) (omega (arith, z)))
        where
          lone : (t : Bool) → (t && true) ≡ false → t ≡ false
          lone true h = h
          lone false h = refl
      one false k a = other_byte (l ∷ space ∷ (nought + n) ∷ b ∷ y ∷ ys) (rw k (never (digit (nought + n))))

-- a line that is malformed is none that a run goes on with
pub unfit : (s : Stage) (line : List ℕ) → well_formed line ≡ false → fits s line ≡ false
unfolding opens orders
unfit Opening line h = rw h
unfit Running line h = rw h
unfit Over line h = refl

-- a line that ends here
line-told : (s : Stage) (l n b : ℕ) → b ≡ newline → Ended l n (whole (Number l n)) → Told s (Number l n) b (line_act s l n)
unfolding opens orders
line-told Opening l n b e k =
    split (Told Opening (Number l n) b) (eqb l 68 && size_good n) (Open n) Bad
    (λ d. (e, rw (k.good, k.first, k.value) d, k.value))
    (λ d ys h. rw (e, h e, k.good, k.first, k.value) d)
line-told Running l n b e k =
    split (Told Running (Number l n) b) (eqb (event_of l) 0) Bad (Order l (event_of l) n)
    (λ d ys h. rw (e, h e, k.good, k.first, d))
    (λ d. (e, rw (k.good, k.first, d), k.first, refl, k.value))
line-told Over l n b e k = λ ys h. refl

pub told : (s : Stage) (p : Part) (b : ℕ) → Fair p → Told s p b (act s p b)
unfolding well_formed
told s Nothing b f =
    split (Told s Nothing b) (eqb b newline) Bad (Keep (Letter b))
    (λ e ys h. unfit s (b ∷ ys) (rw (h (eqb-true b newline e))))
    (λ e. (refl, e))
told s (Letter l) b f =
    split (Told s (Letter l) b) (eqb b space) (Keep (Space l)) Bad
    (λ e. (rw (eqb-true b space e), f))
    (λ e ys h. unfit s (l ∷ b ∷ ys) (rw e))
told s (Space l) b f =
    split (Told s (Space l) b) (digit b) (Keep (Number l (b - nought))) Bad
    (λ e. (rw (shown-one (b - nought) (omega (arith, (of-digit b e).1)), (of-digit b e).0), (f, omega (arith, (of-digit b e).1))))
    (λ e ys h. unfit s (l ∷ space ∷ b ∷ ys) (no_digit l b ys e))
told s (Number l n) b f =
    split (Told s (Number l n) b) (eqb b newline) (line_act s l n)
    (cond (digit b && ltb 0 n && ltb n 100) (Keep (Number l (10 * n + (b - nought)))) Bad)
    (λ e. line-told s l n b (eqb-true b newline e) (ended l n f.1))
    (λ e.
    split (Told s (Number l n) b) (digit b && ltb 0 n && ltb n 100) (Keep (Number l (10 * n + (b - nought)))) Bad
    (λ d.
    let g = going_on (digit b) n d in
    let v = of-digit b g.0 in
    (rw (shown-next n (b - nought) g.1 g.2 v.1, v.0), (f.0, omega (arith, g.2, v.1))))
    (λ d ys h. unfit s (l ∷ space ∷ shown n ++ b ∷ ys) (no_more l b n ys e d)))
