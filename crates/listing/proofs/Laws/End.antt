-- What the end of an input prints, and with it every chain of calls: the listing. And there is such a chain: byte by byte.
use Rattle.std.specs.Prelude.{◌≡◌, ℕ, ◌+◌, ◌<◌, Bool, true, false, cond, List, [], ◌∷◌, ◌++◌, length, drop, refl}
use Rattle.std.proofs.Common.{sym, subst, ap, ◌∙◌, true≢false, append-nil, arith, length-append, length-drop}
use Rattle.model.specs.declared.Table.{Table}
use Rattle.lines.specs.declared.Part.{Part}
use Rattle.lines.specs.declared.Part.TheVariants.{Nothing, Letter, Space, Number}
use Rattle.lines.specs.declared.Stage.{Stage}
use Rattle.lines.specs.declared.Stage.TheVariants.{Opening, Running, Over}
use Rattle.listing.specs.declared.Run.{Run}
use Rattle.lines.specs.Line.{lines}
use Rattle.text.specs.Text.{longest, bad}
use Rattle.listing.specs.Listing.{listed, opened, listing}
use Rattle.lines.specs.Reading.{act, cut_off, live}
use Rattle.listing.specs.Feed.{acted, feeding, ended, starting}
use Rattle.listing.specs.Chain.{Prints, finished, over, fed}
use Rattle.lines.specs.Laws.Lines.{Clear}
use Rattle.lines.specs.Laws.Told.{shown, bytes_of, Fair}
use Rattle.lines.specs.Laws.Parts.{fair-clear, unended, unfit}
use Rattle.listing.proofs.Laws.Pieces.{rest, rest_by, First, sure-fresh, Ready, passes}

-- bytes without a newline are one line
one_line : (x : ℕ) (xs : List ℕ) → Clear (x ∷ xs) → lines (x ∷ xs) ≡ (x ∷ xs) ∷ []
unfolding lines
one_line x [] c = rw c.0
one_line x (y ∷ xs) c = rw (c.0, one_line y xs c.1)

-- the bytes of a line that has begun are one line
alone : (p : Part) → cut_off Running p ≡ true → Fair p → lines (bytes_of p ++ []) ≡ bytes_of p ∷ []
alone Nothing b f = absurd (true≢false (sym b))
alone (Letter l) b f = one_line _ _ (fair-clear (Letter l) f)
alone (Space l) b f = one_line _ _ (fair-clear (Space l) f)
alone (Number l n) b f = rw (append-nil (shown n)) (one_line _ _ (fair-clear (Number l n) f))

-- where a line has not begun, there is no byte of it
unbegun : (p : Part) → cut_off Running p ≡ false → bytes_of p ≡ []
unbegun Nothing b = refl
unbegun (Letter l) b = absurd (true≢false b)
unbegun (Space l) b = absurd (true≢false b)
unbegun (Number l n) b = absurd (true≢false b)

end_of : (s : Stage) (t : Table) (n : ℕ) (p : Part) → Fair p → First s n
    → cond (cut_off s p) (bad n) [] ≡ rest_by s t n (lines (bytes_of p ++ []))
unfolding lines opened listed
end_of Opening t n p f i = rw i (go (cut_off Running p) refl)
  where
    go : (b : Bool) → cut_off Running p ≡ b → bad 0 ≡ opened (lines (bytes_of p ++ []))
    go true e = rw (alone p e f, unfit Opening (bytes_of p) (unended p))
    go false e = rw (unbegun p e)
end_of Running t n p f i = go (cut_off Running p) refl
  where
    go : (b : Bool) → cut_off Running p ≡ b → cond (cut_off Running p) (bad n) [] ≡ listed t n (lines (bytes_of p ++ []))
    go true e = rw (e, alone p e f, unfit Running (bytes_of p) (unended p))
    go false e = rw (e, unbegun p e)
end_of Over t n p f i = refl

at-end : (r : Run) → Ready r → ended r ≡ rest r []
unfolding ended
at-end r y = end_of r.stage r.table r.number r.part y.fair y.first

at-over : (s : Stage) (t : Table) (n : ℕ) (ls : List (List ℕ)) → live s ≡ false → [] ≡ rest_by s t n ls
at-over Opening t n ls v = absurd (true≢false v)
at-over Running t n ls v = absurd (true≢false v)
at-over Over t n ls v = refl

-- every chain of calls prints what is to be printed
pub chain : {r : Run} {input text : List ℕ} → Prints r input text → Ready r → r.number + length input < 18446744073709551616
    → text ≡ rest r input
chain {r} {input} {text} (finished e p) y h = p ∙ at-end r y ∙ ap (rest r) (sym e)
chain {r} {input} {text} (over v p) y h = p ∙ at-over r.stage r.table r.number _ v
chain {r} {input} {text} (fed room piece more later e p c) y h =
    let n = ap length e ∙ length-append piece more in
    let k = passes piece room r more y (omega (arith, h, n)) in
    let g = feeding room r piece in
    let l = length-append (drop g.0.taken piece) more ∙ ap (λ (j : ℕ). j + length more) (length-drop g.0.taken piece) in
    let s = chain c k.ready (omega (arith, h, n, l, k.count, k.upto)) in
    p ∙ ap (λ (xs : List ℕ). g.1 ++ xs) s ∙ sym k.text ∙ ap (rest r) (sym e)

pub from_start : {input text : List ℕ} → Prints starting input text → length input < 18446744073709551616 → text ≡ listing input
unfolding starting listing
from_start {input} {text} c h = chain c (record { fair = tt; first = refl; sure = sure-fresh 1 }) (omega (arith, h))

-- from any run, calls on single bytes with room for a line each, up to the end of the input or of the run
pub by_bytes : (r : Run) (input : List ℕ) → (text : List ℕ) × Prints r input text
unfolding feeding
by_bytes r [] = (ended r, finished refl refl)
by_bytes r (b ∷ bs) = go (live r.stage) refl (by_bytes (acted r (act r.stage r.part b)).0 bs)
  where
    go : (v : Bool) → live r.stage ≡ v → (text : List ℕ) × Prints (acted r (act r.stage r.part b)).0 bs text
        → (text : List ℕ) × Prints r (b ∷ bs) text
    go true e q = ((feeding longest r (b ∷ [])).1 ++ q.0, fed {r = r} longest (b ∷ []) bs q.0 refl refl (rw e q.1))
    go false e q = ([], over e refl)

pub listing-printed : (input : List ℕ) → length input < 18446744073709551616 → Prints starting input (listing input)
listing-printed input h =
    let c = by_bytes starting input in
    subst (λ (text : List ℕ). Prints starting input text) (from_start c.1 h) c.1
