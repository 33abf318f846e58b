-- The rules of a good table, one by one, as facts on numbers.
use Rattle.std.specs.Prelude.{◌≡◌, true, false, not, ◌&&◌, [], ◌∷◌, ℕ, ◌+◌, ◌≤◌, ◌<◌}
use Rattle.std.proofs.Common.{sym, ap, ◌∙◌, le_trans, ltb-true, leb-true, eqb-true, eq-eqb, lt-ltb}
use Rattle.std.proofs.Math.Bool.{and-eq-true_iff}
use Rattle.std.proofs.lemmas.Bool.{not-true}
use Rattle.model.specs.declared.Table.{Table}
use Rattle.model.specs.Table.{room, most, ABORT, port_at, copies_at, size_good}
use Rattle.model.specs.Mask.{stands, within}
use Rattle.model.specs.Points.{Tens, two, three, four, tens, one_of, candidate_spin_place}
use Rattle.model.specs.Good.{every_below, named, good}
use Rattle.model.specs.Parts.Good.{shared_good, fields_good, work_good, copies_good, port_good, place_good, all_good}
use Rattle.model.proofs.Laws.Tests.{conjunct, implied, every-below}
use Rattle.model.proofs.Laws.Listed.{good-all}

-- what holds of the number of ports, of ACTIVE, of the word, and of their copy sets
pub record SharedRules (t : Table) : Type 0 where
  pub some : 1 ≤ t.shared.d
  pub fits : t.shared.d ≤ room
  pub taken : t.shared.word.taken ≤ 1
  pub active : within t.shared.d t.shared.active ≡ true
  pub activecopies : within t.shared.d t.shared.activecopies ≡ true
  pub wordcopies : within t.shared.d t.shared.wordcopies ≡ true
  pub owner : t.shared.word.owner < t.shared.d
  pub spin : t.shared.word.spin ≤ (port_at t t.shared.word.owner).made

pub shared-rules : (t : Table) → good t ≡ true → SharedRules t
unfolding all_good size_good shared_good
shared-rules t e =
    let groups = conjunct _ (_ ∷ _ ∷ []) (sym (good-all t) ∙ e) in
    let size = conjunct _ (_ ∷ []) (groups 0) in
    let shared = conjunct _ (_ ∷ _ ∷ _ ∷ _ ∷ _ ∷ []) (groups 1) in
    record {
      some = leb-true _ _ (size 0);
      fits = leb-true _ _ (size 1);
      taken = leb-true _ _ (shared 0);
      active = shared 1;
      activecopies = shared 2;
      wordcopies = shared 3;
      owner = ltb-true _ _ (shared 4);
      spin = leb-true _ _ (shared 5);
    }

-- what holds of port k below D and is used: of its fields, its working values, and the copy sets of its words
pub record PortRules (t : Table) (k : ℕ) : Type 0 where
  pub point : named (port_at t k).point ≡ true
  pub status : (port_at t k).status ≤ ABORT
  pub flag : (port_at t k).flag ≤ 1
  pub value : (port_at t k).value ≤ 1
  pub made : (port_at t k).made ≤ most
  pub go : (port_at t k).go ≤ (port_at t k).made
  pub idle : (port_at t k).point ≡ 0 → (port_at t k).flag ≡ 0
  pub clear : (port_at t k).point ≡ 6 → stands t.shared.active k ≡ false
  pub set : (port_at t k).point ≡ 15 → stands t.shared.active k ≡ true
  pub unmade : (port_at t k).made ≡ 0 → (port_at t k).value ≡ 0
  pub seenowner : (port_at t k).work.seenowner < t.shared.d
  pub candidate : (port_at t k).work.candidate < t.shared.d
  pub own : (port_at t k).work.own ≤ (port_at t k).made
  pub seenspin : (port_at t k).work.seenspin ≤ (port_at t (port_at t k).work.seenowner).made
  pub candidatespin : (port_at t k).work.candidatespin ≤ (port_at t (port_at t k).work.candidate).made
  pub setting : (x : Tens) → (port_at t k).point ≡ tens x + 5 → 0 < (port_at t k).work.seenspin
  pub no_candidatespin : candidate_spin_place (port_at t k).point ≡ false → (port_at t k).work.candidatespin ≡ 0
  pub statuscopies : within t.shared.d (copies_at t k).status ≡ true
  pub gocopies : within t.shared.d (copies_at t k).go ≡ true
  pub spincopies : within t.shared.d (copies_at t k).spin ≡ true
  pub unmadecopies : (port_at t k).made ≡ 0 → (copies_at t k).spin ≡ 0

-- 25, 35 and 45 are the points that the rule of the seen spin names
setting-point : (x : Tens) (n : ℕ) → n ≡ tens x + 5 → one_of n (25 ∷ 35 ∷ 45 ∷ []) ≡ true
unfolding one_of tens
setting-point two n q = rw q
setting-point three n q = rw q
setting-point four n q = rw q

-- the tests of port k pass
pub port-good : (t : Table) (k : ℕ) → good t ≡ true → k < t.shared.d → port_good t k ≡ true
unfolding all_good place_good
port-good t k e h =
    let places = ((and-eq-true_iff (size_good t.shared.d && shared_good t.shared _) (every_below room (place_good t))).0 (sym (good-all t) ∙ e)).1 in
    rw (lt-ltb k t.shared.d h) at (every-below room (place_good t) places k (le_trans h (shared-rules t e).fits))

pub port-rules : (t : Table) (k : ℕ) → good t ≡ true → k < t.shared.d → PortRules t k
unfolding fields_good work_good copies_good
port-rules t k e h =
    let groups = conjunct _ (_ ∷ _ ∷ []) (port-good t k e h) in
    let fields = conjunct _ (_ ∷ _ ∷ _ ∷ _ ∷ _ ∷ _ ∷ _ ∷ _ ∷ _ ∷ []) (groups 0) in
    let work = conjunct _ (_ ∷ _ ∷ _ ∷ _ ∷ _ ∷ _ ∷ _ ∷ _ ∷ _ ∷ _ ∷ []) (groups 1) in
    let copies = conjunct _ (_ ∷ _ ∷ _ ∷ []) (groups 2) in
    record {
      point = fields 0;
      status = leb-true _ _ (fields 1);
      flag = leb-true _ _ (fields 2);
      value = leb-true _ _ (fields 3);
      made = leb-true _ _ (fields 4);
      go = leb-true _ _ (fields 5);
      idle = λ q. eqb-true _ _ (implied _ _ (fields 6) (eq-eqb _ _ q));
      clear = λ q. not-true _ (implied _ _ (fields 7) (eq-eqb _ _ q));
      set = λ q. implied _ _ (fields 8) (eq-eqb _ _ q);
      unmade = λ q. eqb-true _ _ (implied _ _ (fields 9) (eq-eqb _ _ q));
      seenowner = ltb-true _ _ (work 0);
      candidate = ltb-true _ _ (work 1);
      own = leb-true _ _ (work 2);
      seenspin = leb-true _ _ (work 3);
      candidatespin = leb-true _ _ (work 4);
      setting = λ x q. ltb-true _ _ (implied _ _ (work 5) (setting-point x _ q));
      no_candidatespin = λ q. eqb-true _ _ (implied _ _ (work 10) (ap not q));
      statuscopies = copies 0;
      gocopies = copies 1;
      spincopies = copies 2;
      unmadecopies = λ q. eqb-true _ _ (implied _ _ (copies 3) (eq-eqb _ _ q));
    }
