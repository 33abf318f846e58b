-- What is bad in a table: of the rules that fail, one whose field has the lowest place. A field that is bad stands in the image.
use Rattle.std.specs.Prelude.{◌≡◌, refl, ◌⊎◌, Bool, true, false, ◌&&◌, ℕ, zero, suc, ◌+◌, ◌*◌, ◌≤◌, ◌<◌, eqb, leb, ltb, get_or, take, drop}
use Rattle.std.proofs.Common.{sym, ap, ◌∙◌, inl, inr, true≢false, le_trans, le_refl, arith, ltb-true, leb-true, leb-false, le-leb, ne_eqb}
use Rattle.std.proofs.Math.Bool.{and-eq-true_iff, or-true}
use mathlib.Core.List.{List, [], ◌∷◌, ◌++◌, foldl, foldl-append}
use Rattle.model.specs.declared.Fault.{Fault}
use Rattle.model.specs.declared.Port.{Port}
use Rattle.model.specs.declared.Copies.{Copies}
use Rattle.model.specs.declared.Shared.{Shared}
use Rattle.model.specs.declared.Table.{Table}
use Rattle.model.specs.Table.{room, size_good, port_at, copies_at}
use Rattle.model.specs.Bytes.{sum}
use Rattle.model.specs.Layout.{head_widths, shared_widths, port_widths, copied_widths, copies_widths, set_width, port_place, copies_place, size}
use Rattle.model.specs.declared.Answer.{Answer}
use Rattle.model.specs.declared.Answer.TheVariants.{BadTable, NoSuchPort}
use Rattle.model.specs.Cost.{free}
use Rattle.model.specs.Event.{number_of, first_of, refusals, refusal, event}
use Rattle.model.specs.Good.{Rule, whole, room_empty, spin_good, spin_field, shared_rules, field_rules, work_rules, copy_rules, port_rules, ports_rules, rules, passed, good, nowhere, lower, bad_in}
use Rattle.model.proofs.Laws.Tests.{split}
use Rattle.model.specs.Parts.Listed.{rules_at}
use Rattle.model.proofs.Laws.Listed.{start_rules}

-- rule i of a list; past its end, one that passes
abbrev pub rule_at : List Rule → ℕ → Rule
rule_at rs i = get_or rs i (true, whole)

-- lists one after the other
pub bad-append : (f : Fault) (x y : List Rule) → foldl lower f (x ++ y) ≡ foldl lower (foldl lower f x) y
bad-append f x y = foldl-append lower f x y

-- where every test passes, nothing is added
pub none-bad : (f : Fault) (rs : List Rule) → passed rs ≡ true → foldl lower f rs ≡ f
unfolding passed lower
none-bad f [] e = refl
none-bad f (r ∷ rs) e = let q = (and-eq-true_iff r.0 (passed rs)).0 e in rw q.0 (none-bad f rs q.1)

-- nothing has a lower place than the table as a whole
pub whole-stays : (rs : List Rule) → foldl lower whole rs ≡ whole
unfolding lower
whole-stays [] = refl
whole-stays (r ∷ rs) = rw (le-leb 0 r.1.place (omega arith), or-true r.0) (whole-stays rs)

-- a rule that fails leaves a place that is no higher than its own
lower-le : (f : Fault) (r : Rule) → ((lower f r).place ≤ f.place) × (r.0 ≡ false → (lower f r).place ≤ r.1.place)
unfolding lower
lower-le f r = go r.0 refl (leb f.place r.1.place) refl
  where
    go : (a : Bool) → r.0 ≡ a → (b : Bool) → leb f.place r.1.place ≡ b
        → ((lower f r).place ≤ f.place) × (r.0 ≡ false → (lower f r).place ≤ r.1.place)
    go true p b q = rw p (le_refl _, λ e. absurd (true≢false e))
    go false p true q = rw (p, q) (le_refl _, λ e. leb-true _ _ q)
    go false p false q = rw (p, q) (omega (arith, leb-false f.place r.1.place q), λ e. le_refl _)

below : (f : Fault) (rs : List Rule) → (foldl lower f rs).place ≤ f.place
below f [] = le_refl _
below f (r ∷ rs) = le_trans (below (lower f r) rs) (lower-le f r).0

pub lowest : (f : Fault) (rs : List Rule) (i : ℕ) → (rule_at rs i).0 ≡ false → (foldl lower f rs).place ≤ (rule_at rs i).1.place
lowest f [] i e = absurd (true≢false e)
lowest f (r ∷ rs) zero e = le_trans (below (lower f r) rs) ((lower-le f r).1 e)
lowest f (r ∷ rs) (suc i) e = lowest (lower f r) rs i e

-- what is bad is what was bad before, or the field of a rule that fails
abbrev pub Fails : List Rule → Fault → Type 0
Fails rs f = (i : ℕ) × (((rule_at rs i).0 ≡ false) × (f ≡ (rule_at rs i).1))

pub from-rule : (f : Fault) (rs : List Rule) → (foldl lower f rs ≡ f) ⊎ Fails rs (foldl lower f rs)
unfolding lower
from-rule f [] = inl refl
from-rule f (r ∷ rs) = later (from-rule (lower f r) rs)
  where
    here : (a : Bool) → r.0 ≡ a → (b : Bool) → leb f.place r.1.place ≡ b → foldl lower (lower f r) rs ≡ lower f r
        → (foldl lower f (r ∷ rs) ≡ f) ⊎ Fails (r ∷ rs) (foldl lower f (r ∷ rs))
    here true p b q e = inl (e ∙ rw p)
    here false p true q e = inl (e ∙ rw (p, q))
    here false p false q e = inr (0, (p, e ∙ rw (p, q)))

    later : (foldl lower (lower f r) rs ≡ lower f r) ⊎ Fails rs (foldl lower (lower f r) rs) → (foldl lower f (r ∷ rs) ≡ f) ⊎ Fails (r ∷ rs) (foldl lower f (r ∷ rs))
    later (inl e) = here r.0 refl (leb f.place r.1.place) refl e
    later (inr s) = inr (suc s.0, s.1)

-- a list that does not pass has a rule that fails
pub some-fails : (rs : List Rule) → passed rs ≡ false → (i : ℕ) × ((rule_at rs i).0 ≡ false)
unfolding passed
some-fails [] e = absurd (true≢false e)
some-fails (r ∷ rs) e = go r.0 refl (λ q. some-fails rs q)
  where
    go : (a : Bool) → r.0 ≡ a → (passed rs ≡ false → (i : ℕ) × ((rule_at rs i).0 ≡ false)) → (i : ℕ) × ((rule_at (r ∷ rs) i).0 ≡ false)
    go false p f = (0, p)
    go true p f = let s = f (rw p at e) in (suc s.0, s.1)

-- something holds of the field of each rule that fails
abbrev pub Each : (Fault → Type 0) → List Rule → Type 0
Each P [] = Unit {0}
Each P (r ∷ rs) = (r.0 ≡ false → P r.1) × Each P rs

each_append : (P : Fault → Type 0) (x y : List Rule) → Each P x → Each P y → Each P (x ++ y)
each_append P [] y h k = k
each_append P (r ∷ x) y h k = (h.0, each_append P x y h.1 k)

each_at : (P : Fault → Type 0) (rs : List Rule) → Each P rs → (i : ℕ) → (rule_at rs i).0 ≡ false → P (rule_at rs i).1
each_at P [] h i e = absurd (true≢false e)
each_at P (r ∷ rs) h zero e = h.0 e
each_at P (r ∷ rs) h (suc i) e = each_at P rs h.1 i e

-- it begins before a place
abbrev Before : ℕ → List Rule → Type 0
Before n rs = Each (λ f. f.place < n) rs

-- a spin number that is too large is one of a port that there is
failing-port : (d j n made : ℕ) → spin_good d j n made ≡ false → j < d
unfolding spin_good
failing-port d j n made e = go (ltb j d) refl
  where
    go : (b : Bool) → ltb j d ≡ b → j < d
    go true p = ltb-true j d p
    go false p = absurd (true≢false (rw p at e))

-- where records end in the image
port-ends : (d k : ℕ) → k < d → port_place k + 16 ≤ port_place d
unfolding sum head_widths shared_widths port_widths port_place
port-ends d k h = omega (arith, h)

sets_end : (d : ℕ) → (1 ≤ set_width d) × (port_place d + 2 * set_width d ≤ size d) × ((k : ℕ) → k < d → copies_place d k + 3 * set_width d ≤ size d)
unfolding sum set_width copied_widths copies_widths copies_place size
sets_end d = go (leb d 16) refl
  where
    go : (b : Bool) → leb d 16 ≡ b → (1 ≤ set_width d) × (port_place d + 2 * set_width d ≤ size d) × ((k : ℕ) → k < d → copies_place d k + 3 * set_width d ≤ size d)
    go true q = rw q (omega arith, omega arith, λ k h. omega (arith, h))
    go false q = rw q (omega arith, omega arith, λ k h. omega (arith, h))

starts : (d : ℕ) → 26 ≤ port_place d
unfolding sum head_widths shared_widths port_widths port_place
starts d = omega arith

shared-before : (empty : Bool) (s : Shared) (made : ℕ) → Before (size s.d) (shared_rules empty s made)
unfolding sum head_widths shared_widths port_widths copied_widths shared_rules
shared-before empty s made =
    let a = starts s.d in
    let z = sets_end s.d in (
      λ e. omega (arith, a, z.0, z.1),
      (
        λ e. omega (arith, a, z.0, z.1),
        (
          λ e. omega (arith, a, z.0, z.1),
          (
            λ e. omega (arith, a, z.0, z.1),
            (
              λ e. omega (arith, a, z.0, z.1),
              (
                λ e. omega (arith, z.0, z.1, port-ends s.d s.word.owner (failing-port s.d s.word.owner s.word.spin made e)),
                (λ e. omega (arith, z.0, z.1), (λ e. omega (arith, z.0, z.1), tt)),
              ),
            ),
          ),
        ),
      ),
    )

-- a spin number's field
spin-before : (d k j i n made : ℕ) → k < d → sum (take i port_widths) ≤ 15 → spin_good d j n made ≡ false → (spin_field k j i).place < size d
unfolding sum port_widths
spin-before d k j i n made h l e =
    let z = sets_end d in
    split (λ (f : Fault). f.place < size d) (ltb k j) _ _
    (λ q. omega (arith, z.0, z.1, port-ends d j (failing-port d j n made e)))
    (λ q. omega (arith, z.0, z.1, port-ends d k h, l))

fields-before : (active d k : ℕ) (p : Port) → k < d → Before (size d) (field_rules active k p)
unfolding sum port_widths field_rules
fields-before active d k p h =
    let z = sets_end d in
    let x = port-ends d k h in
    (λ e. omega (arith, z.0, z.1, x), (λ e. omega (arith, z.0, z.1, x), (λ e. omega (arith, z.0, z.1, x), (λ e. omega (arith, z.0, z.1, x), (λ e. omega (arith, z.0, z.1, x), (λ e. omega (arith, z.0, z.1, x), (λ e. omega (arith, z.0, z.1, x), (λ e. omega (arith, z.0, z.1, x), (λ e. omega (arith, z.0, z.1, x), (λ e. omega (arith, z.0, z.1, x), tt))))))))))

work-before : (d k : ℕ) (p : Port) (a b : ℕ) → k < d → Before (size d) (work_rules d k p a b)
unfolding sum port_widths work_rules
work-before d k p a b h =
    let z = sets_end d in
    let x = port-ends d k h in
    (λ e. omega (arith, z.0, z.1, x), (λ e. omega (arith, z.0, z.1, x), (λ e. omega (arith, z.0, z.1, x), (λ e. omega (arith, z.0, z.1, x), (λ e. omega (arith, z.0, z.1, x), (λ e. omega (arith, z.0, z.1, x), (spin-before d k p.work.seenowner 8 p.work.seenspin a h (omega arith), (λ e. omega (arith, z.0, z.1, x), (λ e. omega (arith, z.0, z.1, x), (λ e. omega (arith, z.0, z.1, x), (spin-before d k p.work.candidate 10 p.work.candidatespin b h (omega arith), tt)))))))))))

copies-before : (d k made : ℕ) (c : Copies) → k < d → Before (size d) (copy_rules d k made c)
unfolding sum copies_widths copy_rules
copies-before d k made c h =
    let z = sets_end d in
    let x = z.2 k h in
    (λ e. omega (arith, z.0, x), (λ e. omega (arith, z.0, x), (λ e. omega (arith, z.0, x), (λ e. omega (arith, z.0, x), tt))))

-- all rules of a table whose size is good
ports-before : (t : Table) (n : ℕ) → n ≤ t.shared.d → Before (size t.shared.d) (ports_rules t n)
unfolding ports_rules
ports-before t zero h = tt
ports-before t (suc n) h =
    let d = t.shared.d in
    each_append (λ f. f.place < size d) (ports_rules t n) (rules_at t n)
    (ports-before t n (omega (arith, h)))
    (each_append (λ f. f.place < size d) (field_rules t.shared.active n (port_at t n)) _
    (fields-before t.shared.active d n (port_at t n) h)
    (each_append (λ f. f.place < size d) (work_rules d n (port_at t n) _ _) (copy_rules d n (port_at t n).made (copies_at t n))
    (work-before d n (port_at t n) _ _ h)
    (copies-before d n (port_at t n).made (copies_at t n) h)))

pub rules-before : (t : Table) → Before (size t.shared.d) (rules t)
unfolding rules
rules-before t =
    each_append (λ f. f.place < size t.shared.d) (start_rules t) (ports_rules t t.shared.d)
    (shared-before (room_empty t) t.shared (port_at t t.shared.word.owner).made)
    (ports-before t t.shared.d (le_refl _))

-- the table as a whole is bad where its size is, or where room above D is not empty
pub whole-first : (empty : Bool) (s : Shared) (made : ℕ) → (size_good s.d && empty) ≡ false → foldl lower nowhere (shared_rules empty s made) ≡ whole
unfolding shared_rules lower
whole-first empty s made e = go (size_good s.d) refl empty refl
  where
    rest : List Rule
    rest = drop 2 (shared_rules empty s made)

    go : (a : Bool) → size_good s.d ≡ a → (b : Bool) → empty ≡ b → foldl lower nowhere (shared_rules empty s made) ≡ whole
    go true p true q = absurd (true≢false (rw (p, q) at e))
    go true p false q = rw (p, q) (whole-stays rest)
    go false p true q = rw (p, q) (whole-stays rest)
    go false p false q = rw (p, q) (whole-stays rest)

pub bad-whole : (t : Table) → (size_good t.shared.d && room_empty t) ≡ false → bad_in t ≡ whole
unfolding bad_in rules
bad-whole t e =
    bad-append nowhere (start_rules t) (ports_rules t t.shared.d)
    ∙ ap (λ (f : Fault). foldl lower f (ports_rules t t.shared.d)) (whole-first (room_empty t) t.shared (port_at t t.shared.word.owner).made e)
    ∙ whole-stays (ports_rules t t.shared.d)

-- an image is shorter than the place that says that nothing is bad
size_below : (d : ℕ) → d ≤ room → size d < 65535
unfolding room sum head_widths shared_widths port_widths set_width copied_widths copies_widths port_place copies_place size
size_below d h = go (leb d 16) refl
  where
    go : (b : Bool) → leb d 16 ≡ b → size d < 65535
    go true q = rw q (omega (arith, h))
    go false q = rw q (omega (arith, h))

pub size_fits : (d : ℕ) → size_good d ≡ true → d ≤ room
unfolding size_good
size_fits d e = leb-true d room ((and-eq-true_iff (leb 1 d) (leb d room)).0 e).1

pub good-nowhere : (t : Table) → good t ≡ true → bad_in t ≡ nowhere
unfolding good bad_in
good-nowhere t e = none-bad nowhere (rules t) e

pub bad-somewhere : (t : Table) → good t ≡ false → (bad_in t).place < 65535
unfolding good bad_in
bad-somewhere t e = go (size_good t.shared.d) refl
  where
    go : (b : Bool) → size_good t.shared.d ≡ b → (bad_in t).place < 65535
    go true p =
        let s = some-fails (rules t) e in
        omega (
          arith,
          lowest nowhere (rules t) s.0 s.1,
          each_at (λ f. f.place < size t.shared.d) (rules t) (rules-before t) s.0 s.1,
          size_below t.shared.d (size_fits t.shared.d p),
        )
    go false p = rw (bad-whole t (rw p)) (omega arith)

-- so the place says whether a table is good
pub place-good : (t : Table) → eqb (bad_in t).place 65535 ≡ good t
place-good t = go (good t) refl
  where
    go : (b : Bool) → good t ≡ b → eqb (bad_in t).place 65535 ≡ b
    go true e = rw (good-nowhere t e)
    go false e = ne_eqb (bad_in t).place 65535 (λ q. absurd (omega (arith, bad-somewhere t e, q)))

-- what is bad in a bad table is the field of a rule that fails
pub bad-rule : (t : Table) → good t ≡ false → Fails (rules t) (bad_in t)
unfolding bad_in
bad-rule t e = go (from-rule nowhere (rules t))
  where
    go : (foldl lower nowhere (rules t) ≡ nowhere) ⊎ Fails (rules t) (foldl lower nowhere (rules t)) → Fails (rules t) (bad_in t)
    go (inl q) = absurd (omega (arith, bad-somewhere t e, ap (λ (f : Fault). f.place) q))
    go (inr s) = s

-- and it stands in the image, where D is in range
pub bad-inside : (t : Table) → good t ≡ false → (bad_in t).place < size t.shared.d
bad-inside t e =
    let s = bad-rule t e in
    rw s.1.1 (each_at (λ f. f.place < size t.shared.d) (rules t) (rules-before t) s.0 s.1.0)

-- it is a field, and not the table as a whole, where D is in range and room above D is empty
abbrev Field : List Rule → Type 0
Field rs = Each (λ f. 0 < f.kind) rs

spin-field : (k j i : ℕ) → 0 < (spin_field k j i).kind
spin-field k j i = split (λ (f : Fault). 0 < f.kind) (ltb k j) _ _ (λ q. omega arith) (λ q. omega arith)

port-fields : (s : Shared) (k : ℕ) (p : Port) (c : Copies) (a b : ℕ) → Field (port_rules s k p c a b)
unfolding field_rules work_rules copy_rules
port-fields s k p c a b =
    (λ e. omega arith, (λ e. omega arith, (λ e. omega arith, (λ e. omega arith, (λ e. omega arith, (λ e. omega arith, (λ e. omega arith, (λ e. omega arith, (λ e. omega arith, (λ e. omega arith, (λ e. omega arith, (λ e. omega arith, (λ e. omega arith, (λ e. omega arith, (λ e. omega arith, (λ e. omega arith, (λ e. spin-field k p.work.seenowner 8, (λ e. omega arith, (λ e. omega arith, (λ e. omega arith, (λ e. spin-field k p.work.candidate 10, (λ e. omega arith, (λ e. omega arith, (λ e. omega arith, (λ e. omega arith, tt)))))))))))))))))))))))))

ports-fields : (t : Table) (n : ℕ) → Field (ports_rules t n)
unfolding ports_rules
ports-fields t zero = tt
ports-fields t (suc n) =
    each_append (λ f. 0 < f.kind) (ports_rules t n) (rules_at t n) (ports-fields t n)
    (port-fields t.shared n (port_at t n) (copies_at t n) _ _)

shared-fields : (empty : Bool) (s : Shared) (made : ℕ) → (size_good s.d && empty) ≡ true → Field (shared_rules empty s made)
unfolding shared_rules
shared-fields empty s made h =
    let q = (and-eq-true_iff (size_good s.d) empty).0 h in
    (λ e. absurd (true≢false (sym q.0 ∙ e)), (λ e. absurd (true≢false (sym q.1 ∙ e)), (λ e. omega arith, (λ e. omega arith, (λ e. omega arith, (λ e. omega arith, (λ e. omega arith, (λ e. omega arith, tt))))))))

pub bad-field : (t : Table) → (size_good t.shared.d && room_empty t) ≡ true → good t ≡ false → 0 < (bad_in t).kind
unfolding rules
bad-field t h e =
    let s = bad-rule t e in
    rw s.1.1
    (each_at (λ f. 0 < f.kind) (rules t)
    (each_append (λ f. 0 < f.kind) (start_rules t) (ports_rules t t.shared.d)
    (shared-fields (room_empty t) t.shared (port_at t t.shared.word.owner).made h)
    (ports-fields t t.shared.d))
    s.0
    s.1.0)

-- what an event answers to a bad table, and never to a good one
pub bad-event : (t : Table) (k e : ℕ) → good t ≡ false → event t k e ≡ free (BadTable (bad_in t)) t
unfolding event refusal first_of
bad-event t k e h = rw h

abbrev Others : List (Bool × Answer) → Type 0
Others [] = Unit {0}
Others (r ∷ rs) = (number_of r.1 ≡ 1 → ⊥) × Others rs

first-other : (rs : List (Bool × Answer)) → Others rs → number_of (first_of rs) ≡ 1 → ⊥
unfolding first_of
first-other [] h = λ q. absurd (omega (arith, q))
first-other (r ∷ rs) h = split (λ (a : Answer). number_of a ≡ 1 → ⊥) r.0 r.1 (first_of rs) (λ q. h.0) (λ q. first-other rs h.1)

pub good-other : (t : Table) (k e : ℕ) → good t ≡ true → number_of (refusal t k e) ≡ 1 → ⊥
unfolding refusal refusals
good-other t k e h =
    rw h
    (first-other ((leb t.shared.d k, NoSuchPort) ∷ refusals e (port_at t k))
    (λ q. absurd (omega (arith, q)), (λ q. absurd (omega (arith, q)), (λ q. absurd (omega (arith, q)), (λ q. absurd (omega (arith, q)), (λ q. absurd (omega (arith, q)), (λ q. absurd (omega (arith, q)), (λ q. absurd (omega (arith, q)), tt))))))))
