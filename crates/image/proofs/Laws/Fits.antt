-- The head of an image, and the fields of a good table, fit their widths.
use Rattle.std.specs.Prelude.{◌≡◌, refl, Bool, true, false, cond, List, [], ◌∷◌, map, ℕ, suc, ◌^◌, ◌≤◌, ◌<◌, leb, length, get_or}
use Rattle.std.proofs.Common.{sym, ◌∙◌, true≢false, lt_of_lt_of_le, arith, leb-true, leb-false}
use Rattle.std.proofs.Math.Bool.{and-false}
use Rattle.std.proofs.Math.Nat.{pow-le-pow_right}
use Rattle.std.proofs.lemmas.Bool.{lt-leb}
use Rattle.model.specs.declared.Table.{Table}
use Rattle.model.specs.Table.{room, most, port_at, copies_at}
use Rattle.model.specs.Mask.{within}
use Rattle.model.specs.Good.{named, good}
use Rattle.model.proofs.Laws.Mask.{within-lt}
use Rattle.model.proofs.Laws.Rules.{shared-rules, port-rules}
use Rattle.model.specs.Bytes.{sum}
use Rattle.model.specs.Layout.{shared_widths, port_widths, set_width, copied_widths, copies_widths, head_widths, shared_values, port_values, copied_values, copies_values, version, port_place, head_values}
use Rattle.layout.specs.Laws.Records.{Fits, AllFit}

-- the head of an image
pub head-fits : (d : ℕ) → d ≤ room → Fits head_widths (head_values d)
unfolding room sum shared_widths port_widths set_width copied_widths copies_widths head_widths version port_place head_values
head-fits d h = go (leb d 16) refl
  where
    go : (b : Bool) → leb d 16 ≡ b → Fits head_widths (head_values d)
    go true q = rw q (omega arith, (omega arith, (omega arith, (omega arith, (omega arith, (omega arith, (omega arith, (omega arith, tt))))))))
    go false q = rw q (omega arith, (omega arith, (omega arith, (omega arith, (omega arith, (omega arith, (omega arith, (omega arith, tt))))))))

-- a point that is named is below 256
named-fits : (n : ℕ) → named n ≡ true → n < 256
unfolding named
named-fits n e = go (leb n 45) refl
  where
    go : (b : Bool) → leb n 45 ≡ b → n < 256
    go true q = omega (arith, leb-true n 45 q)
    go false q =
        let h = leb-false n 45 q in
        absurd
        (true≢false
        (sym e
        ∙ rw (
          lt-leb n 6 (omega arith),
          lt-leb n 19 (omega arith),
          lt-leb n 25 (omega arith),
          lt-leb n 35 (omega arith),
          lt-leb n 45 (omega arith),
          and-false (leb 0 n),
          and-false (leb 8 n),
          and-false (leb 20 n),
          and-false (leb 30 n),
          and-false (leb 40 n),
        )))

-- a set of ports fits eight bytes, and its own
set-fits-8 : (d m : ℕ) → d ≤ room → within d m ≡ true → m < 256 ^ 8
unfolding room
set-fits-8 d m h e = lt_of_lt_of_le (within-lt d m e) (pow-le-pow_right {n = 2} (omega arith) {i = d} {j = 64} h)

set-fits : (d m : ℕ) → d ≤ room → within d m ≡ true → m < 256 ^ set_width d
unfolding set_width
set-fits d m h e = go (leb d 16) refl
  where
    go : (b : Bool) → leb d 16 ≡ b → m < 256 ^ cond b 2 8
    go true q = lt_of_lt_of_le (within-lt d m e) (pow-le-pow_right {n = 2} (omega arith) {i = d} {j = 16} (leb-true d 16 q))
    go false q = set-fits-8 d m h e

module _ (t : Table) (g : good t ≡ true) where
  made-fits : (k : ℕ) → k < t.shared.d → (port_at t k).made < 65536
  unfolding most
  made-fits k h = omega (arith, (port-rules t k g h).made)

  pub shared-fits : Fits shared_widths (shared_values t.shared)
  unfolding room shared_widths shared_values
  shared-fits =
      let r = shared-rules t g in (
        set-fits-8 t.shared.d t.shared.active r.fits r.active,
        (omega (arith, r.taken), (omega (arith, r.owner, r.fits), (omega (arith, r.spin, made-fits t.shared.word.owner r.owner), tt))),
      )

  pub copied-fits : Fits (copied_widths t.shared.d) (copied_values t.shared)
  unfolding copied_widths copied_values
  copied-fits =
      let r = shared-rules t g in
      (set-fits t.shared.d t.shared.activecopies r.fits r.activecopies, (set-fits t.shared.d t.shared.wordcopies r.fits r.wordcopies, tt))

  pub port-fits : (k : ℕ) → k < t.shared.d → Fits port_widths (port_values (port_at t k))
  unfolding room port_widths port_values
  port-fits k h =
      let r = port-rules t k g h in
      let f = (shared-rules t g).fits in
      let m = made-fits k h in (
        named-fits (port_at t k).point r.point,
        (
          omega (arith, r.status),
          (
            omega (arith, r.flag),
            (
              omega (arith, r.value),
              (
                m,
                (
                  omega (arith, r.go, m),
                  (
                    omega (arith, r.own, m),
                    (
                      omega (arith, r.seenowner, f),
                      (
                        omega (arith, r.seenspin, made-fits (port_at t k).work.seenowner r.seenowner),
                        (
                          omega (arith, r.candidate, f),
                          (omega (arith, r.candidatespin, made-fits (port_at t k).work.candidate r.candidate), tt),
                        ),
                      ),
                    ),
                  ),
                ),
              ),
            ),
          ),
        ),
      )

  pub copies-fits : (k : ℕ) → k < t.shared.d → Fits (copies_widths t.shared.d) (copies_values (copies_at t k))
  unfolding copies_widths copies_values
  copies-fits k h =
      let r = port-rules t k g h in
      let f = (shared-rules t g).fits in (
        set-fits t.shared.d (copies_at t k).status f r.statuscopies,
        (set-fits t.shared.d (copies_at t k).go f r.gocopies, (set-fits t.shared.d (copies_at t k).spin f r.spincopies, tt)),
      )

-- the records of a list fit where each of them does
pub all_fit : {A : Type 0} (f : A → List ℕ) (z : A) (ws : List ℕ) (l : List A) → ((k : ℕ) → k < length l → Fits ws (f (get_or l k z))) → AllFit ws (map f l)
all_fit f z ws [] h = tt
all_fit f z ws (x ∷ l) h = (h 0 (omega arith), all_fit f z ws l (λ k q. h (suc k) (omega (arith, q))))
