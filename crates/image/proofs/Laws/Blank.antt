-- The image of a fresh table: its head, and zeros.
use Rattle.std.specs.Prelude.{◌≡◌, refl, Bool, true, false, ℕ, zero, suc, ◌+◌, ◌-◌, ◌*◌, ◌≤◌, length, get_or, take, drop, replicate}
use Rattle.std.proofs.Common.{sym, ap, ◌∙◌, zero-mul, suc-mul, add_comm, arith, get_or-drop, length-take-le, length-drop, drop-drop}
use borrow.Rule.Slice.PartMut.{put_mid}
use Rattle.std.proofs.lemmas.List.{length-replicate}
use mathlib.Core.List.{List, [], ◌∷◌, ◌++◌, map, flat_map, append_assoc}
use Rattle.std.proofs.lemmas.List.Edits.{sets, sets-eq}
use Rattle.std.proofs.Math.Seq.{length-sets}
use Rattle.model.specs.declared.Fault.{Fault}
use Rattle.model.specs.Table.{room, no_port, no_copies, fresh_table, size_good}
use Rattle.model.specs.Good.{whole, good, bad_in}
use Rattle.model.specs.Parts.Good.{all_good}
use Rattle.model.proofs.Laws.Listed.{good-all}
use Rattle.model.proofs.Laws.Faults.{bad-whole}
use Rattle.model.proofs.Laws.Kept.{good-fresh}
use Rattle.rules.specs.Check.{size-good-fits}
use Rattle.model.specs.Bytes.{little, sum, pack}
use Rattle.model.specs.Layout.{shared_widths, port_widths, copied_widths, copies_widths, head_widths, shared_values, port_values, copied_values, copies_values, head_values, port_place, copies_place, size}
use Rattle.layout.specs.Laws.Inside.{start-inside, copied-inside}
use Rattle.layout.specs.Laws.Records.{packs, length-pack}
use Rattle.records.specs.Records.{put_at}
use Rattle.records.specs.Laws.Rows.{sets-append}
use Rattle.records.specs.Laws.There.{put-inside}
use Rattle.image.specs.Image.{encode}
use Rattle.image.specs.Parts.{zeros}

zeros-append : (a b : ℕ) → zeros a ++ zeros b ≡ zeros (a + b)
zeros-append zero b = let e : 0 + b ≡ b = omega arith in rw e
zeros-append (suc a) b = let e : suc a + b ≡ suc (a + b) = omega arith in rw e (ap (λ (l : List ℕ). 0 ∷ l) (zeros-append a b))

zero-little : (w : ℕ) → little w 0 ≡ zeros w
unfolding little
zero-little zero = refl
zero-little (suc w) = ap (λ (l : List ℕ). 0 ∷ l) (zero-little w)

zero-pack : (ws vs : List ℕ) → ((i : ℕ) → get_or vs i 0 ≡ 0) → pack ws vs ≡ zeros (sum ws)
unfolding pack sum
zero-pack [] vs h = refl
zero-pack (w ∷ ws) vs h =
    rw (h 0, zero-little w, zero-pack ws (drop 1 vs) (λ i. get_or-drop 1 vs i 0 ∙ h (1 + i))) (zeros-append w _)

zero-packs : {A : Type 0} (f : A → List ℕ) (z : A) (ws : List ℕ) (n : ℕ) → pack ws (f z) ≡ zeros (sum ws) → packs ws (map f (replicate n z)) ≡ zeros (n * sum ws)
unfolding flat_map
zero-packs f z ws zero h = rw (zero-mul (sum ws))
zero-packs f z ws (suc n) h =
    let e : sum ws + n * sum ws ≡ suc n * sum ws = add_comm (sum ws) (n * sum ws) ∙ sym (suc-mul n (sum ws)) in
    rw (h, zero-packs f z ws n h, zeros-append (sum ws) (n * sum ws), e)

first-same : {A : Type 0} (z : A) (d n : ℕ) → d ≤ n → take d (replicate n z) ≡ replicate d z
first-same z zero n h = refl
first-same z (suc d) zero h = absurd (omega (arith, h))
first-same {A = A} z (suc d) (suc n) h = ap (λ (l : List A). z ∷ l) (first-same z d n (omega (arith, h)))

zero-values : (n i : ℕ) → get_or (zeros n) i 0 ≡ 0
zero-values zero i = refl
zero-values (suc n) zero = refl
zero-values (suc n) (suc i) = zero-values n i

blank-image : (d : ℕ) → d ≤ room → encode (fresh_table d) ≡ pack head_widths (head_values d) ++ zeros (size d - sum head_widths)
unfolding encode fresh_table shared_values port_values copied_values copies_values size copies_place port_place
blank-image d h =
    let s : pack shared_widths (0 ∷ 0 ∷ 0 ∷ 0 ∷ []) ≡ zeros (sum shared_widths) = zero-pack shared_widths (zeros 4) (zero-values 4) in
    let c : pack (copied_widths d) (0 ∷ 0 ∷ []) ≡ zeros (sum (copied_widths d)) = zero-pack (copied_widths d) (zeros 2) (zero-values 2) in
    let pp : pack port_widths (0 ∷ 0 ∷ 0 ∷ 0 ∷ 0 ∷ 0 ∷ 0 ∷ 0 ∷ 0 ∷ 0 ∷ 0 ∷ []) ≡ zeros (sum port_widths) = zero-pack port_widths (zeros 11) (zero-values 11) in
    let kk : pack (copies_widths d) (0 ∷ 0 ∷ 0 ∷ []) ≡ zeros (sum (copies_widths d)) = zero-pack (copies_widths d) (zeros 3) (zero-values 3) in
    let p = zero-packs port_values no_port port_widths d pp in
    let k = zero-packs copies_values no_copies (copies_widths d) d kk in
    let e : sum shared_widths + (d * sum port_widths + (sum (copied_widths d) + d * sum (copies_widths d)))
    ≡ sum head_widths + sum shared_widths + d * sum port_widths + sum (copied_widths d) + d * sum (copies_widths d) - sum head_widths = omega arith in
    rw (first-same no_port d room h, first-same no_copies d room h, s, c, p, k)
    (ap (λ (l : List ℕ). pack head_widths (head_values d) ++ l)
    (rw (zeros-append (sum (copied_widths d)) (d * sum (copies_widths d)), zeros-append (d * sum port_widths) (sum (copied_widths d) + d * sum (copies_widths d)), zeros-append (sum shared_widths) (d * sum port_widths + (sum (copied_widths d) + d * sum (copies_widths d))), e)))

-- head and zeros, put one after the other
module _ (d : ℕ) (h : d ≤ room) (out mid : List ℕ) (enough : size d ≤ length out) (p : mid ≡ put_at head_widths (head_values d) 0 out) where
  headed : mid ≡ sets out 0 (pack head_widths (head_values d))
  headed = p ∙ put-inside head_widths (head_values d) 0 out (omega (arith, enough, start-inside d, copied-inside d))

  pub head-long : length mid ≡ length out
  head-long = ap length headed ∙ length-sets out 0 (pack head_widths (head_values d))

  pub blank-put : (next : List ℕ) → next ≡ sets mid (sum head_widths) (zeros (size d - sum head_widths)) → next ≡ sets out 0 (encode (fresh_table d))
  blank-put next q =
      let z : 0 + length (pack head_widths (head_values d)) ≡ sum head_widths = omega (arith, length-pack head_widths (head_values d)) in
      q ∙ rw headed
      (sym (ap (sets out 0) (blank-image d h) ∙ sets-append out 0 (pack head_widths (head_values d)) (zeros (size d - sum head_widths))
      ∙ ap (λ (i : ℕ). sets (sets out 0 (pack head_widths (head_values d))) i (zeros (size d - sum head_widths))) z))

-- a fresh table is good where its D is
pub fresh-good : (d : ℕ) → good (fresh_table d) ≡ size_good d
unfolding all_good fresh_table
fresh-good d = go (size_good d) refl
  where
    go : (b : Bool) → size_good d ≡ b → good (fresh_table d) ≡ b
    go true q = let f = size-good-fits d q in good-fresh d f.0 f.1
    go false q = good-all (fresh_table d) ∙ rw q

pub fresh-bad : (d : ℕ) → size_good d ≡ false → bad_in (fresh_table d) ≡ whole
unfolding fresh_table
fresh-bad d e = bad-whole (fresh_table d) (rw e)

-- a fault whose fields are all 0
pub whole-is : (kind port place : ℕ) → kind ≡ 0 → port ≡ 0 → place ≡ 0 → ◌≡◌ {A = Fault} (record { kind = kind; port = port; place = place }) whole
whole-is kind port place a b c = rw (a, b, c)

-- a part of a list that is filled with zeros
pub part-filled : (l ys : List ℕ) (a e : ℕ) → a ≤ e → e ≤ length l → ys ≡ zeros (length (take (e - a) (drop a l))) → put_mid a (e - a) l ys ≡ sets l a (zeros (e - a))
part-filled l ys a e h k q =
    let m : length (take (e - a) (drop a l)) ≡ e - a = length-take-le (e - a) (drop a l) (omega (arith, length-drop a l)) in
    let n : length (zeros (e - a)) ≡ e - a = length-replicate (e - a) 0 in
    rw (q, m, sets-eq (zeros (e - a)) l a (omega (arith, n)), n, drop-drop (e - a) a l)
    (sym (append_assoc (take a l) (zeros (e - a)) (drop (a + (e - a)) l)))
