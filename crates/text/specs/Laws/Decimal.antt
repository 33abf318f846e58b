-- A number's digits: one more digit than a tenth of it has, and at most twenty in 64 bits. They are put from the last to the first.
use Rattle.std.specs.Prelude.{◌≡◌, refl, Bool, true, false, List, [], ◌∷◌, ◌++◌, ℕ, zero, suc, ◌+◌, ◌-◌, ◌*◌, ◌/◌, ◌%◌, ◌^◌, ◌≤◌, ◌<◌, ltb, length, set}
use Rattle.std.proofs.Common.{ap, ◌∙◌, arith, lt-ltb, le-ltb, ltb-true, ltb-false, length-append}
use Rattle.std.proofs.Math.Nat.{pow-zero, pow-suc}
use Rattle.std.proofs.lemmas.List.Edits.{sets}
use Rattle.lines.specs.Line.{nought}
use Rattle.text.specs.Text.{digits_in, decimal}
use Rattle.text.specs.Laws.Put.{Put, last-first}

-- turns enough are turns enough
turns-enough : (f g n : ℕ) → n < f → n < g → digits_in f n ≡ digits_in g n
unfolding digits_in
turns-enough zero g n h k = absurd (omega arith)
turns-enough (suc f) zero n h k = absurd (omega arith)
turns-enough (suc f) (suc g) n h k = go (ltb n 10) refl (λ a b. turns-enough f g (n / 10) a b)
  where
    go : (b : Bool) → ltb n 10 ≡ b → (n / 10 < f → n / 10 < g → digits_in f (n / 10) ≡ digits_in g (n / 10)) → digits_in (suc f) n ≡ digits_in (suc g) n
    go true e q = rw e
    go false e q =
        let l = ltb-false n 10 e in
        rw e (ap (λ (ds : List ℕ). ds ++ (nought + n % 10) ∷ []) (q (omega (arith, l)) (omega (arith, l))))

pub digits-one : (n : ℕ) → n < 10 → decimal n ≡ (nought + n) ∷ []
unfolding decimal digits_in
digits-one n h = rw (lt-ltb n 10 h)

pub digits-next : (n : ℕ) → 10 ≤ n → decimal n ≡ decimal (n / 10) ++ (nought + n % 10) ∷ []
unfolding decimal digits_in
digits-next n h =
    rw (le-ltb n 10 h)
    (ap (λ (ds : List ℕ). ds ++ (nought + n % 10) ∷ []) (turns-enough n (suc (n / 10)) (n / 10) (omega arith) (omega arith)))

-- a number below ten times 10 ^ k has at most k + 1 digits
tens : ℕ → ℕ
tens zero = 10
tens (suc k) = 10 * tens k

digits-short : (k n : ℕ) → n < tens k → length (decimal n) ≤ suc k
unfolding tens
digits-short zero n h = rw (digits-one n h) (omega arith)
digits-short (suc k) n h = go (ltb n 10) refl (λ a. digits-short k (n / 10) a)
  where
    go : (b : Bool) → ltb n 10 ≡ b → (n / 10 < tens k → length (decimal (n / 10)) ≤ suc k) → length (decimal n) ≤ suc (suc k)
    go true e q = rw (digits-one n (ltb-true n 10 e)) (omega arith)
    go false e q =
        let l : 10 ≤ n = ltb-false n 10 e in
        let m = q (omega (arith, h)) in
        rw (digits-next n l) (simp length-append (omega (arith, m)))

pub digits-fit : (n : ℕ) → n < 18446744073709551616 → length (decimal n) ≤ 20
unfolding tens
digits-fit n h = digits-short 19 n (omega arith)

-- how many digits
pub count-one : (n : ℕ) → n < 10 → length (decimal n) ≡ 1
count-one n h = rw (digits-one n h)

pub count_next : (n : ℕ) → 10 ≤ n → length (decimal n) ≡ length (decimal (n / 10)) + 1
count_next n h = rw (digits-next n h) (length-append (decimal (n / 10)) ((nought + n % 10) ∷ []))

-- and from the power of ten that it reaches
pub count-between : (k n : ℕ) → 10 ^ k ≤ n → n < 10 * 10 ^ k → length (decimal n) ≡ k + 1
count-between zero n l h = rw (digits-one n (omega (arith, h, pow-zero 10)))
count-between (suc k) n l h =
    let p : 10 ^ suc k ≡ 10 ^ k * 10 = pow-suc 10 k in
    let q : 10 ^ k ≤ n / 10 = omega (arith, p, l) in
    let r : n / 10 < 10 * 10 ^ k = omega (arith, p, h) in
    let m = count-between k (n / 10) q r in
    omega (arith, m, count_next n (omega (arith, p, l, pow-positive k)))
  where
    pow-positive : (k : ℕ) → 1 ≤ 10 ^ k
    pow-positive zero = omega (arith, pow-zero 10)
    pow-positive (suc k) = omega (arith, pow-suc 10 k, pow-positive k)

-- the loop that puts n from its last digit to its first: the digits of x are still to put, up to place i
pub record Putting (out₀ : List ℕ) (at n : ℕ) (out : List ℕ) (x i : ℕ) : Type 0 where
  pub place : i ≡ at + length (decimal x)
  pub short : i ≤ at + 20
  pub bytes : sets out at (decimal x) ≡ sets out₀ at (decimal n)

pub begins : {out : List ℕ} {at n c : ℕ} → n < 18446744073709551616 → c ≡ length (decimal n) → Putting out at n out n (at + c)
begins {out} {at} {n} {c} f e = record { place = omega (arith, e); short = omega (arith, e, digits-fit n f); bytes = refl }

pub turns : {out₀ out exit : List ℕ} {at n x i d : ℕ} → 10 ≤ x → d ≡ nought + x % 10 → Putting out₀ at n out x i
    → exit ≡ set out (i - 1) d
    → Putting out₀ at n exit (x / 10) (i - 1)
turns {out₀} {out} {exit} {at} {n} {x} {i} {d} h e t p =
    let l : i - 1 ≡ at + length (decimal (x / 10)) = omega (arith, t.place, count_next x h) in
    record {
      place = l;
      short = omega (arith, t.short);
      bytes = rw (p, l, e) (last-first (decimal (x / 10)) out at (nought + x % 10) ∙ (rw (digits-next x h) at t.bytes));
    }

pub ends : {out₀ out exit : List ℕ} {at n x i d c : ℕ} → x < 10 → d ≡ nought + x % 10 → n < 18446744073709551616 → c ≡ length (decimal n)
    → Putting out₀ at n out x i
    → exit ≡ set out at d
    → Put out₀ at (decimal n) 20 (at + c) exit
ends {out₀} {out} {exit} {at} {n} {x} {i} {d} {c} h e f q t p =
    let l : d ≡ nought + x = omega (arith, e) in
    record { place = omega (arith, q); short = digits-fit n f; bytes = p ∙ (rw (digits-one x h, ← l) at t.bytes) }
