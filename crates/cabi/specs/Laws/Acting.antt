-- An order on an image from the fields that it leaves: the image of the table after it.
use Rattle.std.specs.Prelude.{◌≡◌, Bool, true, false, ℕ, ◌+◌, ◌*◌, ◌%◌, ◌≤◌, ◌<◌, leb, get_or, drop, Result, Ok, Err, ⊤}
use Rattle.std.proofs.Math.Path.{refl, sym, ap}
use Rattle.std.proofs.Common.{◌∙◌, subst, mod-eq_of_lt}
use mathlib.Core.List.{List, [], ◌∷◌}
use native.Mathlib.Omega.{arith}
use borrow.Author.Tests.{ne_eqb, leb-true, leb-false}
use Rattle.std.proofs.Math.Seq.{drop-drop}
use Rattle.model.specs.declared.Port.{Port}
use Rattle.model.specs.declared.Table.{Table}
use Rattle.model.specs.declared.Touch.{Touch}
use Rattle.model.specs.declared.Move.{Move}
use Rattle.model.specs.declared.Fee.{Fee}
use Rattle.model.specs.declared.Cell.{Cell}
use Rattle.model.specs.declared.Cell.TheVariants.{Nothing, Status, Go, Spin, Active, Lock, CandidateGo, SeenSpin}
use Rattle.model.specs.Table.{room, port_at, copies_at}
use Rattle.model.specs.Good.{good}
use Rattle.model.specs.Points.{point_of}
use Rattle.model.specs.Event.{number_of, stepping, first_of, refusals, refusal, ordered, event}
use Rattle.model.specs.declared.Answer.{Answer}
use Rattle.model.specs.declared.Answer.TheVariants.{NoSuchPort}
use Rattle.answers.specs.declared.Costs.{Costs}
use Rattle.answers.specs.Verdict.{passed, paid}
use Rattle.model.specs.Parts.Moves.{view, tried}
use Rattle.model.specs.Parts.Charges.{touch_at, home, holders, fee_of}
use Rattle.model.specs.Parts.Steps.{touch_of, home_of, view_of, move_of, setting, marked}
use Rattle.model.proofs.Laws.Rules.{port-rules}
use Rattle.model.proofs.Laws.Kept.{room_fits}
use Rattle.model.proofs.Laws.Fees.{charge-cost}
use Rattle.costs.specs.Single.{charge-fee}
use Rattle.lock.specs.Ready.{passed-ok, passed-err}
use Rattle.model.specs.Bytes.{Bytes, sum, unpack}
use Rattle.model.specs.Layout.{shared_widths, port_widths, head_widths, port_values, port_of, set_width, copied_widths, copies_widths, shared_of, copies_of, port_place, copies_place, size}
use Rattle.layout.specs.Places.{set_place}
use Rattle.records.specs.Records.{there, put_at, ports_in}
use Rattle.records.specs.Laws.There.{there-inside, there-outside}
use Rattle.image.specs.Image.{encode, held}
use Rattle.image.proofs.Laws.Held.{copies-below, d-held, held_fits, held-long, held-sized, held-encoded, port-held, active-held, word_held}
use Rattle.cabi.specs.Laws.Fields.{is_word}
use Rattle.cabi.specs.Laws.Puts.{sets_put, move_put}
use Rattle.cabi.specs.Laws.Putting.{set-inside, set-wide, put-own, put_step}
use Rattle.cabi.specs.Laws.Stepping.{fee_at, left, refused-port, refused-first, event-ordered, event-stepped, step-tried}

-- the bytes are the image of d ports whose table is good
pub record Holds (d : ℕ) (bs : List ℕ) : Type 0 where
  pub ports : d ≡ ports_in bs
  pub some : 0 < d
  pub sound : good (held d bs) ≡ true

-- and nothing refuses the order e at its port k
pub record Acts (d : ℕ) (bs : List ℕ) (k e : ℕ) : Type 0 where
  pub holds : Holds d bs
  pub port : k < d
  pub passes : number_of (refusal (held d bs) k e) ≡ 0

pub port-small : (d : ℕ) (bs : List ℕ) (k e : ℕ) → Acts d bs k e → k < 256
port-small d bs k e a = omega (arith, a.port, held_fits bs d a.holds.ports a.holds.some, room_fits)

-- the port that a step touches is one of the ports
pub home-in : (t : Table) (k : ℕ) → good t ≡ true → k < t.shared.d → home_of t k < t.shared.d
unfolding home_of
home-in t k g h = go (touch_of t k).cell
  where
    go : (c : Cell) → home c k (port_at t k).work < t.shared.d
    go Nothing = h
    go Status = h
    go Go = h
    go Spin = h
    go Active = h
    go Lock = h
    go CandidateGo = (port-rules t k g h).candidate
    go SeenSpin = (port-rules t k g h).seenowner

-- what a step costs fits one digit for each model
fee-small : (t : Table) (k : ℕ) → ((fee_at t k).cached < 256) × ((fee_at t k).distributed < 256)
fee-small t k =
    let u = touch_of t k in
    let p = port_at t k in
    let q = port_at t (home_of t k) in
    let e = charge-fee u k p.work q t.shared (copies_at t (home_of t k)) in
    let h = charge-cost u k p.work q t.shared (copies_at t (home_of t k)) in
    let a : (fee_at t k).cached ≤ 1 = rw e at h.0 in
    let b : (fee_at t k).distributed ≤ 1 = rw e at h.1 in
    (omega (arith, a), omega (arith, b))

-- a copy set, read where it stands
module _ (bs : List ℕ) (d : ℕ) (e : d ≡ ports_in bs) (p : 0 < d) where
  set_there : (c : Cell) (j : ℕ) → is_word c ≡ true → j < d → there (set_width d ∷ []) (set_place c d j) bs ≡ unpack (set_width d ∷ []) (drop (set_place c d j) bs)
  set_there c j z h = there-inside (set_width d ∷ []) (set_place c d j) bs (omega (arith, held-long bs d e p, set-inside c d j z h))

  -- the third of three fields of a width
  third : (w at : ℕ) → drop w (drop w (drop at bs)) ≡ drop (at + 2 * w) bs
  third w at =
      let e : at + (w + w) ≡ at + 2 * w = omega arith in
      drop-drop w w (drop at bs) ∙ drop-drop (w + w) at bs ∙ ap (λ (n : ℕ). drop n bs) e

  set-held : (c : Cell) (j : ℕ) → j < d
      → get_or (there (set_width d ∷ []) (set_place c d j) bs) 0 0 ≡ holders c (held d bs).shared (copies_at (held d bs) j)
  unfolding held shared_of copies_of copied_widths copies_widths unpack sum
  set-held Nothing j h = rw (there-outside (set_width d ∷ []) (size d) bs (omega (arith, held-long bs d e p, set-wide d)))
  set-held Status j h = rw (set_there Status j refl h, copies-below d bs j h)
  set-held Go j h = rw (set_there Go j refl h, copies-below d bs j h, drop-drop (set_width d) (copies_place d j) bs)
  set-held Spin j h = rw (set_there Spin j refl h, copies-below d bs j h, third (set_width d) (copies_place d j))
  set-held Active j h = rw (set_there Active j refl h)
  set-held Lock j h = rw (set_there Lock j refl h, drop-drop (set_width d) (port_place d) bs)
  set-held CandidateGo j h = rw (set_there CandidateGo j refl h, copies-below d bs j h, drop-drop (set_width d) (copies_place d j) bs)
  set-held SeenSpin j h = rw (set_there SeenSpin j refl h, copies-below d bs j h, third (set_width d) (copies_place d j))

-- what a step reads and works out: its own record and its touch u, of a word of port j, whose record is q; the holders of a copy of it, its move and its fee
pub record Reading (d : ℕ) (bs : List ℕ) (k : ℕ) (own : Port) (u : Touch) (j : ℕ) (q : Port) (before : ℕ) (m : Move) (f : Fee) : Type 0 where
  pub mine : own ≡ port_of (there port_widths (port_place k) bs)
  pub touch : u ≡ touch_at (point_of own.point)
  pub home : j ≡ home u.cell k own.work
  pub other : q ≡ port_of (there port_widths (port_place j) bs)
  pub holders : before ≡ get_or (there (set_width d ∷ []) (set_place u.cell d j) bs) 0 0
  pub move :
      m ≡ tried (view own (get_or (there shared_widths (sum head_widths) bs) 0 0) d k q.go (shared_of 0 (there shared_widths (sum head_widths) bs) []).word)
  pub fee : f ≡ fee_of u (k % 64) own.work q before

-- no costs
abbrev pub none : Costs
none = record { cached = 0; distributed = 0 }

-- an order on the image of d ports
module _ (d : ℕ) (bs : List ℕ) (h : Holds d bs) (k e : ℕ) where
  abbrev t : Table
  t = held d bs

  in_table : k < d → k < t.shared.d
  in_table q = rw (d-held d bs) q

  -- what refuses it
  pub refuses-port : d ≤ k → Err NoSuchPort ≡ passed (refusal t k e)
  unfolding passed
  refuses-port q = rw (refused-port t k e h.sound (rw (d-held d bs) q))

  pub refuses-first : k < d → first_of (refusals e (port_of (there port_widths (port_place k) bs))) ≡ refusal t k e
  refuses-first q = rw (port-held bs d h.ports h.some k q) (sym (refused-first t k e h.sound (in_table q)))

  passed-port : number_of (refusal t k e) ≡ 0 → k < d
  passed-port z = go (leb d k) refl
    where
      go : (b : Bool) → leb d k ≡ b → k < d
      go true q =
          let x : ◌≡◌ {A = ℕ} 2 0 = ap number_of (sym (refused-port t k e h.sound (rw (d-held d bs) (leb-true _ _ q)))) ∙ z in
          absurd (omega (arith, x))
      go false q = leb-false _ _ q

  pub carries : ◌≡◌ {A = Result ⊤ Answer} (Ok tt) (passed (refusal t k e)) → Acts d bs k e
  carries r =
      let p = passed-ok (refusal t k e) tt r in
      record { holds = h; port = passed-port p; passes = p }

  module _ (bytes : Bytes bs) where
    unmoved : bs ≡ encode t
    unmoved = sym (held-encoded bs d h.ports h.some bytes)

    pub refused-made : (a : Answer) → Err a ≡ passed (refusal t k e) → (Err a ≡ paid (event t k e)) × (bs ≡ encode (event t k e).table)
    unfolding paid event
    refused-made a r =
        let q = passed-err (refusal t k e) a r in
        let o = ne_eqb (number_of (refusal t k e)) 0 q.1 in
        (rw (o, o, ← q.0), rw o unmoved)

    -- all but a step
    pub order-made : k < d → number_of (refusal t k e) ≡ 0 → (e ≡ stepping → ⊥) → (own : Port) → own ≡ port_of (there port_widths (port_place k) bs)
        → (Ok none ≡ paid (event t k e)) × (put_at port_widths (port_values (ordered e own)) (port_place k) bs ≡ encode (event t k e).table)
    unfolding paid
    order-made q r z own m =
        let o = event-ordered t k e r z in
        let mine = m ∙ port-held bs d h.ports h.some k q in
        rw o (
          refl,
          rw mine
              (ap (put_at port_widths (port_values (ordered e (port_at t k))) (port_place k)) unmoved
              ∙ put-own t (held-sized bs d h.ports h.some) (rw (d-held d bs) (held_fits bs d h.ports h.some)) k (ordered e (port_at t k)) (in_table q)),
        )

-- a step that nothing refuses
module _ (d : ℕ) (bs : List ℕ) (k : ℕ) (a : Acts d bs k stepping) where
  abbrev was : Table
  was = held d bs

  fits : d ≤ room
  fits = held_fits bs d a.holds.ports a.holds.some

  below : k < was.shared.d
  below = in_table d bs a.holds k stepping a.port

  home_below : home_of was k < d
  home_below = subst (λ (n : ℕ). home_of was k < n) (d-held d bs) (home-in was k a.holds.sound below)

  own_held : (own : Port) → own ≡ port_of (there port_widths (port_place k) bs) → own ≡ port_at was k
  own_held own m = m ∙ port-held bs d a.holds.ports a.holds.some k a.port

  pub home-small : (own : Port) → own ≡ port_of (there port_widths (port_place k) bs) → home (touch_at (point_of own.point)).cell k own.work < 256
  unfolding touch_of home_of
  home-small own m = rw (own_held own m) (omega (arith, home_below, fits, room_fits))

  module _ (own : Port) (u : Touch) (j : ℕ) (q : Port) (before : ℕ) (m : Move) (f : Fee) (r : Reading d bs k own u j q before m f) where
    mine : own ≡ port_at was k
    mine = own_held own r.mine

    touched : u ≡ touch_of was k
    unfolding touch_of
    touched = r.touch ∙ rw mine

    homed : j ≡ home_of was k
    unfolding home_of
    homed = r.home ∙ rw (touched, mine)

    other : q ≡ port_at was (home_of was k)
    other = r.other ∙ rw homed (port-held bs d a.holds.ports a.holds.some (home_of was k) home_below)

    moved : m ≡ move_of was k
    unfolding view_of
    moved =
        r.move
        ∙ rw (mine, other, active-held bs d a.holds.ports a.holds.some, word_held bs d a.holds.ports a.holds.some)
        (ap (λ (n : ℕ). tried (view (port_at was k) was.shared.active n k (port_at was (home_of was k)).go was.shared.word)) (sym (d-held d bs))
        ∙ step-tried was k a.holds.sound below a.passes)

    charged : f ≡ fee_at was k
    charged =
        let e : k % 64 ≡ k = mod-eq_of_lt (omega (arith, a.port, fits, room_fits)) in
        let h : before ≡ holders (touch_of was k).cell was.shared (copies_at was (home_of was k)) =
        r.holders ∙ rw (touched, homed) (set-held bs d a.holds.ports a.holds.some (touch_of was k).cell (home_of was k) home_below) in
        r.fee ∙ rw (e, h, touched, other, mine)

    pub small : (f.cached < 256) × (f.distributed < 256)
    small = rw charged (fee-small was k)

    -- what it answers
    pub step-answers : Ok (record { cached = f.cached; distributed = f.distributed }) ≡ paid (event was k stepping)
    unfolding paid
    step-answers =
        let o : event was k stepping ≡ left was k = event-stepped was k stepping a.passes refl in
        rw (o, charged)

    -- and the image after it
    pub step-leaves : Bytes bs → (sets : Bool) → sets ≡ setting m q own.work
        → move_put k j u.kind m sets (sets_put d j (set_place u.cell d j) m.makes f.set bs) ≡ encode (event was k stepping).table
    unfolding marked
    step-leaves bytes sets e =
        let o : event was k stepping ≡ left was k = event-stepped was k stepping a.passes refl in
        ap (λ (b : List ℕ). move_put k j u.kind m sets (sets_put d j (set_place u.cell d j) m.makes f.set b)) (sym (held-encoded bs d a.holds.ports a.holds.some bytes))
        ∙ ap (λ (n : ℕ). move_put k j u.kind m sets (sets_put n j (set_place u.cell n j) m.makes f.set (encode was))) (sym (d-held d bs))
        ∙ put_step was (held-sized bs d a.holds.ports a.holds.some) (rw (d-held d bs) fits) k j u m f.set sets below (rw homed (home-in was k a.holds.sound below))
        ∙ rw (o, e, touched, homed, other, moved, charged, mine)

-- what the goals of an order on an image are proved by, whatever their names
pub ruleset acting = (refuses-port, refused-made, passed-ok)
