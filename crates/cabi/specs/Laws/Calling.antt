-- The calls by what the reader says of the image.
use Rattle.std.specs.Prelude.{◌≡◌, Bool, List, [], ◌∷◌, ◌++◌, ◌&&◌, ℕ, ◌+◌, ◌≤◌, ◌<◌, ltb, get_or, take, Result, Ok, Err}
use Rattle.std.proofs.Math.Path.{refl, ap}
use Rattle.std.proofs.Common.{sym, ◌∙◌, subst, take_at, drop_at}
use Rattle.std.proofs.Math.Bool.{true, false, cond}
use native.Mathlib.Omega.{arith}
use borrow.Author.Tests.{eqb-true, eqb-false, ltb-false, eq-eqb, ne_eqb, lt-ltb, le-ltb}
use Rattle.std.proofs.Math.Dec.{eqb}
use Rattle.std.proofs.Math.ListN.{length, drop}
use Rattle.std.proofs.Math.Seq.{sets, sets-eq}
use Rattle.model.specs.declared.Table.{Table}
use Rattle.model.specs.declared.Outcome.{Outcome}
use Rattle.model.specs.declared.Answer.{Answer}
use Rattle.model.specs.declared.Answer.TheVariants.{Done, BadTable, NoSuchPort, NoSuchEvent, Busy, Worn, NotInside, Idle, Inside, BadSize, ShortRoom, BadImage}
use Rattle.model.specs.Table.{Sized}
use Rattle.model.specs.Good.{good}
use Rattle.model.specs.Event.{number_of, answer_code, refusal, event}
use Rattle.model.specs.Cost.{free}
use Rattle.model.specs.Run.{Order, order, after, ran, codes}
use Rattle.model.specs.Run as Run
use Rattle.answers.specs.declared.Costs.{Costs}
use Rattle.answers.specs.Verdict.{passed, paid, code_of}
use Rattle.answers.proofs.Verdict.{code-paid}
use Rattle.model.proofs.Laws.Cases.{refused-free}
use Rattle.model.proofs.Laws.After.{after-sized, after-d}
use Rattle.model.proofs.Laws.Kept.{good-after}
use Rattle.lock.specs.Ready.{passed-ok, passed-err}
use Rattle.model.specs.Bytes.{Bytes}
use Rattle.model.specs.Layout.{d_in}
use Rattle.records.specs.Records.{ports_in}
use Rattle.records.specs.Laws.Head.{image-tests}
use Rattle.image.specs.Image.{held, encode, decode, checked, room_after}
use Rattle.image.proofs.Laws.Held.{is-image, d-held, held-long, held-sized, held-encoded}
use Rattle.image.proofs.Laws.Reading.{d-byte, accepted-image}
use Rattle.image.proofs.Laws.Encoded.{encode-bytes}
use Rattle.image.proofs.Laws.RoundTrip.{d-back, image-back, held_back, decode-encode}
use Rattle.cabi.specs.Calls.{check_call, event_on, event_call, event_image, into_on, into_call, into_next, calls, calls_image}
use Rattle.cabi.specs.Laws.Stepping.{event-done}
use Rattle.cabi.specs.Laws.Acting.{Holds, refuses-port}

-- an answer in one number: but for BAD TABLE, document 01's; 0 is DONE
pub code-plain : (a : Answer) → (number_of a ≡ 1 → ⊥) → number_of a ≡ answer_code a
unfolding answer_code
code-plain Done h = refl
code-plain (BadTable f) h = absurd (h refl)
code-plain NoSuchPort h = refl
code-plain NoSuchEvent h = refl
code-plain Busy h = refl
code-plain Worn h = refl
code-plain NotInside h = refl
code-plain Idle h = refl
code-plain Inside h = refl
code-plain BadSize h = refl
code-plain ShortRoom h = refl
code-plain BadImage h = refl

pub code-done : (a : Answer) → number_of a ≡ 0 → 0 ≡ answer_code a
code-done a z = sym z ∙ code-plain a (λ q. absurd (omega (arith, z, q)))

-- refused by the reader: an event answers what it does and leaves every byte
module _ (bs : List ℕ) (n : ℕ) (a : n ≡ check_call bs) (z : number_of (decode bs).answer ≡ 0 → ⊥) where
  unread : eqb (number_of (decode bs).answer) 0 ≡ false
  unread = ne_eqb (number_of (decode bs).answer) 0 z

  pub event-unread : (k e : ℕ) → (n ≡ event_call bs k e) × (bs ≡ event_image bs k e)
  unfolding check_call Run.code_of event_call event_image
  event-unread k e = (a ∙ rw unread (omega arith), rw (unread, unread))

-- accepted by it: an image whose table is good
pub accepted-holds : (bs : List ℕ) (n d : ℕ) → n ≡ number_of (decode bs).answer → n ≡ 0 → d ≡ get_or bs 1 0 → Holds d bs
unfolding ports_in
accepted-holds bs n d a z e =
    let h = accepted-image bs (sym a ∙ z) in
    let q : d ≡ d_in bs = e ∙ d-byte bs in
    record { ports = q ∙ rw h.0; some = rw q (image-tests bs h.0).some; sound = rw q h.1 }

-- what the check says of an image: why it is refused, or that its table is good
module _ (bs : List ℕ) where
  pub check-refused : (a : Answer) → Err a ≡ checked bs → (a ≡ (decode bs).answer) × (number_of (decode bs).answer ≡ 0 → ⊥)
  unfolding checked
  check-refused a = go (eqb (number_of (decode bs).answer) 0) refl
    where
      go : (b : Bool) → eqb (number_of (decode bs).answer) 0 ≡ b → Err a ≡ cond b (Ok (d_in bs)) (Err (decode bs).answer) → (a ≡ (decode bs).answer) × (number_of (decode bs).answer ≡ 0 → ⊥)
      go true q r = let f : ◌≡◌ {A = Result ℕ Answer} (Err a) (Ok (d_in bs)) = r in cc
      go false q r = let f : ◌≡◌ {A = Result ℕ Answer} (Err a) (Err (decode bs).answer) = r in (cc, eqb-false _ _ q)

  pub check-accepts : (d : ℕ) → Ok d ≡ checked bs → (d ≡ d_in bs) × (number_of (decode bs).answer ≡ 0)
  unfolding checked
  check-accepts d = go (eqb (number_of (decode bs).answer) 0) refl
    where
      go : (b : Bool) → eqb (number_of (decode bs).answer) 0 ≡ b → Ok d ≡ cond b (Ok (d_in bs)) (Err (decode bs).answer) → (d ≡ d_in bs) × (number_of (decode bs).answer ≡ 0)
      go true q r = let f : ◌≡◌ {A = Result ℕ Answer} (Ok d) (Ok (d_in bs)) = r in (cc, eqb-true _ _ q)
      go false q r = let f : ◌≡◌ {A = Result ℕ Answer} (Ok d) (Err (decode bs).answer) = r in cc

  pub check-holds : (d : ℕ) → Ok d ≡ checked bs → Holds d bs
  check-holds d r = let c = check-accepts d r in accepted-holds bs 0 d (sym c.1) refl (c.0 ∙ sym (d-byte bs))

  pub check-done : (d : ℕ) → Ok d ≡ checked bs → 0 ≡ check_call bs
  unfolding check_call
  check-done d r = code-done (decode bs).answer (check-accepts d r).1

  -- refused: the number of a call, and what an event answers
  pub check-number : (a : Answer) → Err a ≡ checked bs → answer_code a ≡ check_call bs
  unfolding check_call
  check-number a r = ap answer_code (check-refused a r).0

  pub refused-event : (a : Answer) (k e : ℕ) → Err a ≡ checked bs → (Err a ≡ paid (event_on bs k e)) × (bs ≡ event_image bs k e)
  unfolding paid event_image
  refused-event a k e r =
      let c = check-refused a r in
      let o = ne_eqb (number_of (decode bs).answer) 0 c.1 in
      (rw (o, o, ← c.0), rw (o, o))

  pub refused-into : (a : Answer) (next : List ℕ) (k e : ℕ) → Err a ≡ checked bs → (Err a ≡ paid (into_on bs (length next) k e)) × (next ≡ into_next bs next k e)
  unfolding paid into_next room_after
  refused-into a next k e r =
      let c = check-refused a r in
      let o = ne_eqb (number_of (decode bs).answer) 0 c.1 in
      (rw (o, o, o, ← c.0), rw (o, o, o))

-- a refused event costs nothing, so its result says its one number
module _ (bs : List ℕ) (k e : ℕ) where
  on-free : (number_of (event_on bs k e).answer ≡ 0 → ⊥) → ((event_on bs k e).cached ≡ 0) × ((event_on bs k e).distributed ≡ 0)
  on-free = go (eqb (number_of (decode bs).answer) 0)
    where
      o : Bool → Outcome
      o b = cond b (event (decode bs).table k e) (free (decode bs).answer (decode bs).table)

      go : (b : Bool) → (number_of (o b).answer ≡ 0 → ⊥) → ((o b).cached ≡ 0) × ((o b).distributed ≡ 0)
      go true n = let f = refused-free (decode bs).table k e n in (ap (λ (x : Outcome). x.cached) f, ap (λ (x : Outcome). x.distributed) f)
      go false n = (refl, refl)

  pub event-number : code_of (paid (event_on bs k e)) ≡ event_call bs k e
  unfolding event_call
  event-number = code-paid (event_on bs k e) on-free

  pub into-number : (n : ℕ) → code_of (paid (into_on bs n k e)) ≡ into_call bs n k e
  unfolding into_call
  into-number n = code-paid (into_on bs n k e) (go (eqb (number_of (event_on bs k e).answer) 0 && ltb n (length bs)))
    where
      o : Bool → Outcome
      o b = cond b (free ShortRoom (event_on bs k e).table) (event_on bs k e)

      go : (b : Bool) → (number_of (o b).answer ≡ 0 → ⊥) → ((o b).cached ≡ 0) × ((o b).distributed ≡ 0)
      go true x = (refl, refl)
      go false x = on-free x

-- the image of a good table
module _ (t : Table) (s : Sized t) (g : good t ≡ true) (k e : ℕ) where
  on-table : event_on (encode t) k e ≡ event t k e
  on-table = rw (decode-encode t s g)

  pub table-calls : (event_call (encode t) k e ≡ Run.code_of (event t k e)) × (event_image (encode t) k e ≡ encode (event t k e).table)
  unfolding event_call event_image
  table-calls = (ap Run.code_of on-table, rw on-table (go (eqb (number_of (event t k e).answer) 0) refl))
    where
      go : (b : Bool) → eqb (number_of (event t k e).answer) 0 ≡ b → cond b (encode (event t k e).table) (encode t) ≡ encode (event t k e).table
      go true q = refl
      go false q = ap (λ (o : Outcome). encode o.table) (sym (refused-free t k e (eqb-false _ _ q)))

-- that many calls on the image of a good table are that many events on the table
pub calls-run : (t : Table) (os : List Order) → Sized t → good t ≡ true
    → (calls (encode t) os ≡ codes t os) × (calls_image (encode t) os ≡ encode (ran t os))
unfolding calls calls_image codes ran
calls-run t [] s g = (refl, refl)
calls-run t (o ∷ os) s g =
    let c = table-calls t s g o.port o.event in
    let r = calls-run (after t o) os (after-sized t o s) (good-after t o s g) in
    (rw (c.0, c.1, r.0), rw (c.1, r.1))

-- an order on an image that is accepted, and the image after it
module _ (d : ℕ) (bs : List ℕ) (h : Holds d bs) (bytes : Bytes bs) (k e : ℕ) where
  abbrev t : Table
  t = held d bs

  sized : Sized t
  sized = held-sized bs d h.ports h.some

  same : encode t ≡ bs
  same = held-encoded bs d h.ports h.some bytes

  on-held : event_on bs k e ≡ event t k e
  on-held = subst (λ (b : List ℕ). event_on b k e ≡ event t k e) same (on-table t sized h.sound k e)

  pub event-made : (r : Result Costs Answer) (next : List ℕ) → (r ≡ paid (event t k e)) × (next ≡ encode (event t k e).table) → (r ≡ paid (event_on bs k e)) × (next ≡ event_image bs k e)
  event-made r next m =
      let c = subst (λ (b : List ℕ). event_image b k e ≡ encode (event t k e).table) same (table-calls t sized h.sound k e).1 in
      (m.0 ∙ ap paid (sym on-held), m.1 ∙ sym c)

  pub next-holds : (next : List ℕ) → next ≡ encode (event t k e).table → Holds d next
  unfolding ports_in
  next-holds next r =
      let u = after t (order k e) in
      let s = after-sized t (order k e) sized in
      let g = good-after t (order k e) sized h.sound in
      let m : u.shared.d ≡ d = after-d t (order k e) ∙ d-held d bs in
      record {
        ports = rw (r, image-back u s g, d-back u s g, m);
        some = h.some;
        sound = rw r (subst (λ (n : ℕ). good (held n (encode u)) ≡ true) m (ap good (held_back u s g) ∙ g));
      }

  pub next-long : (next : List ℕ) → next ≡ encode (event t k e).table → length next ≡ length bs
  next-long next r = held-long next d (next-holds next r).ports h.some ∙ sym (held-long bs d h.ports h.some)

  pub next-bytes : (next : List ℕ) → next ≡ encode (event t k e).table → Bytes next
  next-bytes next r = rw r (encode-bytes (event t k e).table)

  -- into another buffer: refused by the event, for want of room, and done
  module _ (next : List ℕ) where
    pub into-refused : (a : Answer) → Err a ≡ passed (refusal t k e) → (Err a ≡ paid (into_on bs (length next) k e)) × (next ≡ into_next bs next k e)
    unfolding paid event into_next room_after
    into-refused a r =
        let q = passed-err (refusal t k e) a r in
        let o = ne_eqb (number_of (refusal t k e)) 0 q.1 in
        (rw (on-held, o, o, o, ← q.0), rw (on-held, o, o, o))

    module _ (z : number_of (refusal t k e) ≡ 0) where
      done : eqb (number_of (event t k e).answer) 0 ≡ true
      done = rw (event-done t k e z)

      pub into-short : length next < length bs → (Err ShortRoom ≡ paid (into_on bs (length next) k e)) × (next ≡ into_next bs next k e)
      unfolding paid into_next room_after
      into-short l = rw (on-held, done, lt-ltb _ _ l) (refl, refl)

      pub into-done : length bs ≤ length next → (r : Result Costs Answer) (out : List ℕ) → (r ≡ paid (event t k e)) × (out ≡ encode (event t k e).table)
          → (r ≡ paid (into_on bs (length next) k e)) × (out ++ drop (length bs) next ≡ into_next bs next k e)
      unfolding into_next room_after
      into-done l r out c =
          let m : length out ≡ length bs = next-long out c.1 in
          let e = sets-eq out next 0 (omega (arith, m, l)) in
          let q : 0 + length out ≡ length bs = omega (arith, m) in
          (c.0 ∙ rw (on-held, done, le-ltb _ _ l), rw (on-held, done, le-ltb _ _ l, done, ← c.1, ← q) (sym e))

-- done into another buffer: the event is done, and there is room
module _ (bs next : List ℕ) (k e : ℕ) (done : number_of (into_on bs (length next) k e).answer ≡ 0) where
  record Made : Type 0 where
    pub number : number_of (event_on bs k e).answer ≡ 0
    pub enough : length bs ≤ length next
    pub whole : into_on bs (length next) k e ≡ event_on bs k e

  made : Made
  made = go (eqb (number_of (event_on bs k e).answer) 0) refl (ltb (length next) (length bs)) refl
    where
      go : (a : Bool) → eqb (number_of (event_on bs k e).answer) 0 ≡ a → (b : Bool) → ltb (length next) (length bs) ≡ b → Made
      go true p true q =
          let x : ◌≡◌ {A = ℕ} 10 0 = rw (p, q) at done in
          absurd (omega (arith, x))
      go true p false q = record { number = eqb-true _ _ p; enough = ltb-false _ _ q; whole = rw (p, q) }
      go false p b q =
          let x : number_of (event_on bs k e).answer ≡ 0 = rw p at done in
          absurd (eqb-false _ _ p x)

  -- so the image was accepted
  accepted : number_of (decode bs).answer ≡ 0
  accepted = go (eqb (number_of (decode bs).answer) 0) refl
    where
      go : (b : Bool) → eqb (number_of (decode bs).answer) 0 ≡ b → number_of (decode bs).answer ≡ 0
      go true q = eqb-true _ _ q
      go false q = rw q at made.number

  -- the buffer begins with the image after the event, and keeps what stood after it
  pub into-begins : Bytes bs
      → (into_call bs (length next) k e ≡ event_call bs k e)
      × (take (length bs) (into_next bs next k e) ≡ event_image bs k e)
      × (drop (length bs) (into_next bs next k e) ≡ drop (length bs) next)
  unfolding event_call event_image into_call into_next room_after
  into-begins f =
      let out = encode (event_on bs k e).table in
      let h = accepted-holds bs 0 (get_or bs 1 0) (sym accepted) refl refl in
      let m : length out ≡ length bs = next-long (get_or bs 1 0) bs h f k e out (ap (λ (o : Outcome). encode o.table) (on-held (get_or bs 1 0) bs h f k e)) in
      let q : 0 + length out ≡ length bs = omega (arith, m) in
      let r : sets next 0 out ≡ out ++ drop (length bs) next = rw q at (sets-eq out next 0 (omega (arith, m, made.enough))) in
      let z = eq-eqb _ _ made.number in
      let d = eq-eqb _ _ done in
      (ap Run.code_of made.whole, rw (d, z, r) (take_at out _ (length bs) m), rw (d, r) (drop_at out _ (length bs) m))

-- what an image that the check accepts is
module _ (bs : List ℕ) (d : ℕ) (c : checked bs ≡ Ok d) where
  pub accepted-ports : d ≡ ports_in bs
  accepted-ports = (check-holds bs d (sym c)).ports

  pub accepted-some : 0 < d
  accepted-some = (check-holds bs d (sym c)).some

  pub accepted-sound : good (held d bs) ≡ true
  accepted-sound = (check-holds bs d (sym c)).sound

  -- its byte 1 is that D
  accepted-byte : get_or bs 1 0 ≡ d
  accepted-byte = d-byte bs ∙ sym (is-image bs d accepted-ports accepted-some).1

  pub byte-ports : get_or bs 1 0 ≡ ports_in bs
  byte-ports = accepted-byte ∙ accepted-ports

  pub byte-some : 0 < get_or bs 1 0
  byte-some = rw accepted-byte accepted-some

  pub byte-sound : good (held (get_or bs 1 0) bs) ≡ true
  byte-sound = rw accepted-byte accepted-sound

-- an order with costs is one that nothing refuses
costs-passes : (t : Table) (k e : ℕ) (x : Costs) → Ok x ≡ paid (event t k e) → number_of (refusal t k e) ≡ 0
unfolding paid event
costs-passes t k e x r = go (eqb (number_of (refusal t k e)) 0) refl
  where
    go : (b : Bool) → eqb (number_of (refusal t k e)) 0 ≡ b → number_of (refusal t k e) ≡ 0
    go true q = eqb-true _ _ q
    go false q = let f : Ok x ≡ Err (refusal t k e) = rw (q, q) at r in cc

-- an event into another buffer: refused, it leaves the buffer; done, it costs what it does on the table
module _ (bs next : List ℕ) (k e : ℕ) where
  pub next-unread : (a : Answer) → Err a ≡ checked bs → next ≡ into_next bs next k e
  next-unread a r = (refused-into bs a next k e r).1

  module _ (d : ℕ) (h : Holds d bs) (bytes : Bytes bs) where
    pub next-refused : (a : Answer) → Err a ≡ passed (refusal (held d bs) k e) → next ≡ into_next bs next k e
    next-refused a r = (into-refused d bs h bytes k e next a r).1

    pub next-short : number_of (refusal (held d bs) k e) ≡ 0 → length next < length bs → next ≡ into_next bs next k e
    next-short z l = (into-short d bs h bytes k e next z l).1

    module _ (l : length bs ≤ length next) (x : Costs) (r : Ok x ≡ paid (event (held d bs) k e)) where
      costs-made : (Ok x ≡ paid (into_on bs (length next) k e)) × (encode (event (held d bs) k e).table ++ drop (length bs) next ≡ into_next bs next k e)
      costs-made = into-done d bs h bytes k e next (costs-passes (held d bs) k e x r) l (Ok x) (encode (event (held d bs) k e).table) (r, refl)

      pub next-paid : Ok x ≡ paid (into_on bs (length next) k e)
      next-paid = costs-made.0

      pub next-made : encode (event (held d bs) k e).table ++ drop (length bs) next ≡ into_next bs next k e
      next-made = costs-made.1

-- an event where the image stands: the same
module _ (bs : List ℕ) (k e : ℕ) where
  pub image-unread : (a : Answer) → Err a ≡ checked bs → bs ≡ event_image bs k e
  image-unread a r = (refused-event bs a k e r).1

  module _ (d : ℕ) (h : Holds d bs) (bytes : Bytes bs) where
    pub image-paid : paid (event (held d bs) k e) ≡ paid (event_on bs k e)
    image-paid = (event-made d bs h bytes k e _ _ (refl, refl)).0

    pub image-made : encode (event (held d bs) k e).table ≡ event_image bs k e
    image-made = (event-made d bs h bytes k e _ _ (refl, refl)).1

-- what the goals of an event on an image are proved by, whatever their names
pub ruleset event_rules = (refused-event, byte-ports, byte-some, byte-sound, accepted-ports, accepted-some, accepted-sound, image-unread, image-paid, image-made)

-- what the goals of an event into another buffer are proved by, whatever their names
pub ruleset into_rules = (refused-into, accepted-ports, accepted-some, accepted-sound, refuses-port, passed-ok, into-refused, into-short, next-unread, next-refused, next-short, next-paid, next-made)
