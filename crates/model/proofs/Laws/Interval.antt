-- Which ports lie before port k on the ring, and a potential that falls with every turn that goes to another port than k.
use Rattle.std.specs.Prelude.{◌≡◌, ◌≢◌, Bool, ℕ, ◌+◌, ◌-◌, ◌*◌, ◌≤◌, ◌<◌}
use Rattle.std.proofs.Math.Path.{refl}
use Rattle.std.proofs.Math.Bool.{true, false}
use Rattle.std.proofs.Math.Nat.{mul-suc, mul-le-mul_left}
use Rattle.std.proofs.Common.{arith}
use Rattle.model.specs.Ring.{distance}
use Rattle.model.proofs.Laws.Ring.{distance_is, distance-pos, distance-le}
use Rattle.model.proofs.Laws.Counting.{count_below, count-mono, count-falls, count-lt}

-- port c lies in the interval (o, k] of the ring where it is no farther from o than k; from such a c other than k the way to k is shorter
pub nearer : {d o c k : ℕ} → o < d → c < d → k < d → c ≢ k → distance d o c ≤ distance d o k → distance d c k < distance d o k
nearer {d} {o} {c} {k} h p q n =
    distance_is (λ (x : ℕ). distance d o c ≤ distance d o k → x < distance d o k) d c k
    (λ u. distance_is (λ (y : ℕ). distance d o c ≤ y → k - c < y) d o k
    (λ v. distance_is (λ (z : ℕ). z ≤ k - o → k - c < k - o) d o c (omega arith) (omega arith))
    (λ v. distance_is (λ (z : ℕ). z ≤ d + k - o → k - c < d + k - o) d o c (omega arith) (omega arith)))
    (λ u. distance_is (λ (y : ℕ). distance d o c ≤ y → d + k - c < y) d o k
    (λ v. distance_is (λ (z : ℕ). z ≤ k - o → d + k - c < k - o) d o c (omega arith) (omega arith))
    (λ v. distance_is (λ (z : ℕ). z ≤ d + k - o → d + k - c < d + k - o) d o c (omega arith) (omega arith)))

-- the turn is at port o of d, and a test says which ports stray: d for each that strays, and the distance from o to k
unfoldable pub potential : ℕ → ℕ → (ℕ → Bool) → ℕ → ℕ
potential d k stray o = d * count_below d stray + distance d o k

-- it never is 0, and at most d * d where k itself does not stray
pub potential-pos : {d k o : ℕ} (f : ℕ → Bool) → o < d → k < d → 0 < potential d k f o
unfolding potential
potential-pos f h l = omega (arith, distance-pos h l)

pub potential-le : {d k o : ℕ} (f : ℕ → Bool) → o < d → k < d → f k ≡ false → potential d k f o ≤ d * d
unfolding potential
potential-le {d} {k} f h l e =
    omega (arith, distance-le h l, mul-suc d (count_below d f), mul-le-mul_left d (count-lt d k f l e))

-- no port more strays, and the turn stays: the potential does not rise
pub potential-stays : (d k o : ℕ) (f g : ℕ → Bool) → ((i : ℕ) → g i ≡ true → f i ≡ true) → potential d k g o ≤ potential d k f o
unfolding potential
potential-stays d k o f g m = omega (arith, mul-le-mul_left d (count-mono d g f m))

-- port r passes the turn on to c, which is not k, and then does not stray; it strayed before if c does not lie in (o, k]: the potential falls
module _ {d k o c r : ℕ} (h : o < d) (p : c < d) (l : k < d) (n : c ≢ k) (u : r < d) where
  pub potential-falls : (f g : ℕ → Bool) → ((i : ℕ) → g i ≡ true → f i ≡ true) → g r ≡ false
      → (f r ≡ false → distance d o c ≤ distance d o k) → potential d k g c < potential d k f o
  unfolding potential
  potential-falls f g m e i = go (f r) refl
    where
      go : (b : Bool) → f r ≡ b → d * count_below d g + distance d c k < d * count_below d f + distance d o k
      go true q =
          omega (arith, distance-pos h l, distance-le p l, mul-suc d (count_below d g), mul-le-mul_left d (count-falls d r g f u m e q))
      go false q = omega (arith, mul-le-mul_left d (count-mono d g f m), nearer h p l n (i q))
