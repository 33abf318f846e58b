-- A run of calls on one image, which is checked once: what is still to do is what the definitions say of all calls.
use Rattle.std.specs.Prelude.{◌≡◌, ℕ, ◌+◌, ◌-◌, ◌*◌, ◌≤◌, ◌<◌, length, set, drop, Result}
use Rattle.std.proofs.Math.Path.{refl, ap}
use Rattle.std.proofs.Common.{◌∙◌, add-one, eq-eqb, ne_eqb}
use mathlib.Core.List.{List, [], ◌∷◌}
use Rattle.std.proofs.Math.Nat.{sub-zero}
use native.Mathlib.Omega.{arith}
use Rattle.std.proofs.Math.ListN.{get_or, length-set}
use Rattle.std.proofs.Math.Seq.{sets}
use Rattle.model.specs.Event.{number_of, event}
use Rattle.model.specs.declared.Answer.{Answer}
use Rattle.model.specs.Run.{Order, orders}
use Rattle.answers.specs.declared.Costs.{Costs}
use Rattle.answers.specs.Verdict.{paid, code_of}
use Rattle.lock.specs.Turns.{next-order}
use Rattle.model.specs.Bytes.{Bytes}
use Rattle.image.specs.Image.{held, encode, decode}
use Rattle.cabi.specs.Calls.{check_call, event_call, event_image, calls, calls_image, run_places}
use Rattle.cabi.specs.Laws.Acting.{Holds}
use Rattle.cabi.specs.Laws.Calling.{code-done, event-unread, event-made, event-number, next-holds, next-long, next-bytes}

-- refused by the reader: no call changes the image, and no place for an answer is changed
module _ (bs : List ℕ) (n : ℕ) (a : n ≡ check_call bs) (z : number_of (decode bs).answer ≡ 0 → ⊥) where
  pub calls-unread : (os : List Order) → bs ≡ calls_image bs os
  unfolding calls_image
  calls-unread [] = refl
  calls-unread (o ∷ os) =
      calls-unread os ∙ ap (λ (b : List ℕ). calls_image b os) (event-unread bs n a z o.port o.event).1

  pub run-unread : (os : List Order) (places : List ℕ) → (n ≡ check_call bs) × ((bs ≡ calls_image bs os) × (places ≡ run_places bs os places))
  unfolding run_places
  run-unread os places = (a, (calls-unread os, rw (ne_eqb (number_of (decode bs).answer) 0 z)))

-- the loop over the orders xs, from the image b₀ of d ports and the answers a₀, before turn i with the image b and the answers a
pub record Running (xs : List ℕ) (n d : ℕ) (b₀ a₀ : List ℕ) (i : ℕ) (b a : List ℕ) : Type 0 where
  pub upto : i ≤ n
  pub holds : Holds d b
  pub bytes : Bytes b
  pub size : length b ≡ length b₀
  pub long : length a ≡ length a₀
  pub image : calls_image b (orders (n - i) (drop (2 * i) xs)) ≡ calls_image b₀ (orders n xs)
  pub text : sets a i (calls b (orders (n - i) (drop (2 * i) xs))) ≡ sets a₀ 0 (calls b₀ (orders n xs))

module _ (xs : List ℕ) (n d : ℕ) (b₀ a₀ : List ℕ) where
  pub run-begins : Holds d b₀ → Bytes b₀ → Running xs n d b₀ a₀ 0 b₀ a₀
  run-begins h f = record { upto = omega arith; holds = h; bytes = f; size = refl; long = refl; image = rw (sub-zero n); text = rw (sub-zero n) }

  pub run-turns : (i : ℕ) (b a next : List ℕ) (r : Result Costs Answer) (c : ℕ) → i < n → Running xs n d b₀ a₀ i b a → c ≡ code_of r
      → (r ≡ paid (event (held d b) (get_or xs (2 * i) 0) (get_or xs (2 * i + 1) 0))) × (next ≡ encode (event (held d b) (get_or xs (2 * i) 0) (get_or xs (2 * i + 1) 0)).table)
      → Running xs n d b₀ a₀ (i + 1) next (set a i c)
  unfolding calls calls_image
  run-turns i b a next x c h r w q =
      let k = get_or xs (2 * i) 0 in
      let v = get_or xs (2 * i + 1) 0 in
      let m = event-made d b r.holds r.bytes k v x next q in
      let number : c ≡ event_call b k v = w ∙ ap code_of m.0 ∙ event-number b k v in
      record {
        upto = omega arith;
        holds = next-holds d b r.holds r.bytes k v next q.1;
        bytes = next-bytes d b r.holds r.bytes k v next q.1;
        size = next-long d b r.holds r.bytes k v next q.1 ∙ r.size;
        long = length-set a i c ∙ r.long;
        image = rw m.1 (rw (next-order n i xs h) at r.image);
        text =
            rw (number, m.1)
            (ap (λ (j : ℕ). sets (set a i (event_call b k v)) j (calls (event_image b k v) (orders (n - (i + 1)) (drop (2 * (i + 1)) xs)))) (add-one i)
            ∙ (rw (next-order n i xs h) at r.text));
      }

  pub run_ends : (i : ℕ) (b a : List ℕ) → n ≤ i → Running xs n d b₀ a₀ i b a → number_of (decode b₀).answer ≡ 0
      → (0 ≡ check_call b₀) × ((b ≡ calls_image b₀ (orders n xs)) × (a ≡ run_places b₀ (orders n xs) a₀))
  unfolding check_call calls calls_image orders run_places
  run_ends i b a h r z =
      let e : n - i ≡ 0 = omega arith in
      (code-done (decode b₀).answer z, (rw e at r.image, rw (eq-eqb _ _ z) (rw e at r.text)))
