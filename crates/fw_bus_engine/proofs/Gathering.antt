-- Entries are put together in a room and written with one write: what it means that this is cut off.
use Rattle.fw_bus_engine.proofs.Common.{◌≡◌, ◌⊎◌, inl, inr, ℕ, ◌<◌, ◌≤◌, List, [], ◌∷◌, ◌++◌, ◌==◌, length, Bool, true, false, Option, refl, ap, sym, subst, ◌∙◌, arith, append_assoc, append-nil}
use Rattle.fw_bus_engine.proofs.Common.{false≢true, nat_tests, Ok, Err, Result, Timed, epoch_after, entry_bytes, Two}
use Rattle.fw_bus_engine.proofs.Common.{Action, Transitions, DeskRelations, IsGood, State, epoch_of, Machine, CountsFaults, between}
use Rattle.fw_bus_engine.proofs.Common.{Execution, PerformedWithDesk}
use Rattle.std.proofs.lemmas.Bool.{cases_lt}
use Rattle.fw_outside.specs.Outside.{AppendsPrefix, Grows, Writes}
use Rattle.fw_outside.proofs.Parts.{Grows-Grows}
use Rattle.fw_log_entry.specs.Log.{latest_epoch}
use Rattle.fw_model_run.specs.Given.{AreGiven}
use Rattle.fw_model_run.specs.Giving.{log_bytes}
use Rattle.fw_model_run.proofs.Along.{steps_prefix}
use Rattle.fw_model_run.proofs.Given.{given_append}
use Rattle.fw_bus_engine.specs.Performing.{CutOff}
use Rattle.fw_bus_engine.specs.Filling.{FillsBy, Gathers, Passes}

-- ---- two ways to part a list

-- the second prefix is within the first
prefix_within : (a b f r : List ℕ) → a ++ b ≡ f ++ r → length f ≤ length a → (m : List ℕ) × (a ≡ f ++ m)
prefix_within a b [] r e few = (a, refl)
prefix_within [] b (x ∷ f) r e few = absurd (omega (arith, few))
prefix_within (y ∷ a) b (x ∷ f) r e few =
    let same : y ≡ x = cc in
    let rest : a ++ b ≡ f ++ r = cc in
    let z = prefix_within a b f r rest (omega (arith, few)) in
    let following = z.1 in
    (z.0, (λ i. same i ∷ following i))

-- it goes past it
prefix_past : (a b f r : List ℕ) → a ++ b ≡ f ++ r → length a ≤ length f → (m : List ℕ) × (f ≡ a ++ m) × (b ≡ m ++ r)
prefix_past [] b f r e few = (f, refl, e)
prefix_past (y ∷ a) b [] r e few = absurd (omega (arith, few))
prefix_past (y ∷ a) b (x ∷ f) r e few =
    let same : x ≡ y = cc in
    let rest : a ++ b ≡ f ++ r = cc in
    let z = prefix_past a b f r rest (omega (arith, few)) in
    let following = z.1 in
    (z.0, (λ i. same i ∷ following i), z.2)

-- ---- a prefix of the bytes of entries

-- the first entries, and a prefix of the next one, are these bytes, if this is the epoch of the latest reset
record Prefix (n : ℕ) (out : List Timed) (f : List ℕ) : Type 0 where
  given : List Timed
  next : Timed
  more : List Timed
  all : out ≡ (given ++ next ∷ []) ++ more
  prefix : List ℕ
  rest : List ℕ
  parts : entry_bytes Two (epoch_after (latest_epoch n given) next.what) next ≡ prefix ++ rest
  is : f ≡ log_bytes n given ++ prefix

-- a prefix of the bytes of an entry and of those after it: of those it is known what their prefixes are
prefix_one : (n : ℕ) (e x : Timed) (es : List Timed) (f rest : List ℕ) → log_bytes n (e ∷ x ∷ es) ≡ f ++ rest
    → ((g : List ℕ) → log_bytes (epoch_after n e.what) (x ∷ es) ≡ g ++ rest → Prefix (epoch_after n e.what) (x ∷ es) g) → Prefix n (e ∷ x ∷ es) f
prefix_one n e x es f rest is following = go (cases_lt (length first) (length f))
  where
    after : ℕ
    after = epoch_after n e.what

    first : List ℕ
    first = entry_bytes Two after e

    go : (length first < length f) ⊎ (length f ≤ length first) → Prefix n (e ∷ x ∷ es) f
    go (inl more) =
        let z = prefix_past first (log_bytes after (x ∷ es)) f rest is (omega (arith, more)) in
        let w = following z.0 z.2 in record {
          given = e ∷ w.given;
          next = w.next;
          more = w.more;
          all = ap (λ ts. e ∷ ts) w.all;
          prefix = w.prefix;
          rest = w.rest;
          parts = w.parts;
          is = z.1 ∙ (ap (λ l. first ++ l) w.is ∙ sym (append_assoc first (log_bytes after w.given) w.prefix));
        }
    go (inr few) =
        let z = prefix_within first (log_bytes after (x ∷ es)) f rest is few in
        record { given = []; next = e; more = x ∷ es; all = refl; prefix = f; rest = z.0; parts = z.1; is = refl }

-- each prefix of the bytes of entries is that of the first of them, with a prefix of the next
prefix_of : (n : ℕ) (e : Timed) (es : List Timed) (f rest : List ℕ) → log_bytes n (e ∷ es) ≡ f ++ rest → Prefix n (e ∷ es) f
prefix_of n e [] f rest is = record {
  given = [];
  next = e;
  more = [];
  all = refl;
  prefix = f;
  rest = rest;
  parts = sym (append-nil (entry_bytes Two (epoch_after n e.what) e)) ∙ is;
  is = refl;
}
prefix_of n e (x ∷ es) f rest is = prefix_one n e x es f rest is (λ g there. prefix_of (epoch_after n e.what) x es g rest there)

prefix_some : (n : ℕ) (out : List Timed) (f rest : List ℕ) → (out ≡ [] → ⊥) → log_bytes n out ≡ f ++ rest → Prefix n out f
prefix_some n [] f rest some is = absurd (some refl)
prefix_some n (e ∷ es) f rest some is = prefix_of n e es f rest is

-- what wrote them was cut off there
cut_at : (D : DeskRelations) (P : Execution) (s t : State) (xs : List Action) (out : List Timed) (f rest : List ℕ) (held after : Option (List ℕ)) → IsGood s → P s xs out t
    → AreGiven D xs → Transitions s xs out t → (out ≡ [] → ⊥) → log_bytes (epoch_of s.account.latest) out ≡ f ++ rest → Grows held after f
    → (cut : CutOff (P s) s held after) × AreGiven D cut.done
cut_at D P s t xs out f rest held after good whole gave steps some is grew =
    let z = prefix_some (epoch_of s.account.latest) out f rest some is in
    let y = steps_prefix s t xs out (z.given ++ z.next ∷ []) z.more good steps z.all in (
      record {
        done = y.0;
        later = y.1;
        all = out;
        last = t;
        whole = subst (λ ys. P s ys out t) y.3 whole;
        goes = subst (λ ys. Transitions s ys out t) y.3 steps;
        given = z.given;
        next = z.next;
        state = y.2;
        steps = y.4;
        prefix = z.prefix;
        rest = z.rest;
        parts = z.parts;
        appended = subst (Grows held after) z.is grew;
      },
      (given_append D y.0 y.1 (subst (AreGiven D) y.3 gave)).0,
    )

-- ---- the room

-- what the test for an empty room tells
pub is_empty : (x bytes : List ℕ) (b : Bool) → x ≡ bytes → b ≡ (length x == 0) → b ≡ true → bytes ≡ []
is_empty [] bytes b e test is = sym e
is_empty (y ∷ x) bytes b e test is = let no : length (y ∷ x) ≡ 0 = grind (arith, nat_tests, sym test ∙ is) in absurd (omega (arith, no))

pub is_full : (x bytes : List ℕ) (b : Bool) → x ≡ bytes → b ≡ (length x == 0) → b ≡ false → bytes ≡ [] → ⊥
is_full [] bytes b e test is none = false≢true (sym is ∙ test)
is_full (y ∷ x) bytes b e test is none = let no : ⊥ = cc in no

-- what stands before it in a room or in a sink
pub fills_after : {D : DeskRelations} {P : Execution} {m now : Machine} {old new : List ℕ} (prefix : List ℕ) → FillsBy D P m now old new → FillsBy D P m now (prefix ++ old) (prefix ++ new)
fills_after {old = old} prefix d = record {
  faults = d.faults;
  shown = λ s g st. let x = d.shown s g st in record {
    actions = x.actions;
    out = x.out;
    state = x.state;
    whole = x.whole;
    steps = x.steps;
    stands = x.stands;
    grew = ap (λ l. prefix ++ l) x.grew ∙ sym (append_assoc prefix old (log_bytes (epoch_of s.account.latest) x.out));
  };
}

-- a part of what is in the room is written
pub gathers_out : {D : DeskRelations} {P : Execution} {m now : Machine} {held after following : Option (List ℕ)} {room rest : List ℕ} → Gathers D P m now held after room
    → (part : List ℕ) × (room ≡ part ++ rest) × Grows after following part → Gathers D P m now held following rest
gathers_out {D = D} {P} {m} {now} {held} {after} {following} {room} {rest} f x = record {
  before = f.before ++ x.0;
  fills = subst (λ l. FillsBy D P m now [] l) (ap (λ l. f.before ++ l) x.1 ∙ sym (append_assoc f.before x.0 rest)) f.fills;
  grew = Grows-Grows held after following f.before x.0 f.grew x.2;
}

-- all was written
pub gathers_all : {T E : Type 0} {D : DeskRelations} {P : Execution} {m now : Machine} {held after : Option (List ℕ)} {room : List ℕ} {k l : ℕ} (u : T) → Gathers D P m now held after room
    → room ≡ [] → CountsFaults {T = T} {E = E} k l (Ok u) → PerformedWithDesk {T = T} {E = E} D P m now (between held after k l) (Ok u)
gathers_all {held = held} {after} u f none faults = record {
  faults = faults;
  shown = λ s g st.
      let x = f.fills.shown s g st in
      let is = sym (append-nil f.before) ∙ (ap (λ l. f.before ++ l) (sym none) ∙ x.grew) in record {
        actions = x.actions;
        out = x.out;
        state = x.state;
        whole = x.whole;
        steps = x.steps;
        stands = x.stands;
        grew = subst (Grows held after) is f.grew;
      };
}

following_none : (a b : List ℕ) → a ++ b ≡ [] → b ≡ []
following_none [] b e = e
following_none (x ∷ a) b e = let no : ⊥ = cc e in absurd no

-- what is in the room is cut off
pub gathers_cut : {T E : Type 0} {D : DeskRelations} {P : Execution} {m now : Machine} {held after following : Option (List ℕ)} {room : List ℕ} {k l : ℕ} (w : E) → Gathers D P m now held after room
    → (room ≡ [] → ⊥) × AppendsPrefix after following room → CountsFaults {T = T} {E = E} k l (Err w) → PerformedWithDesk {T = T} {E = E} D P m now (between held following k l) (Err w)
gathers_cut {D = D} {P} {held = held} {after} {following} {room} w f cut faults = record {
  faults = faults;
  shown = λ s g st.
      let x = f.fills.shown s g st in
      let gives = cut.1 in
      let n = epoch_of s.account.latest in
      let there : x.out ≡ [] → ⊥ = λ none. cut.0 (following_none f.before room (x.grew ∙ ap (log_bytes n) none)) in
      let is : log_bytes n x.out ≡ (f.before ++ gives.prefix) ++ gives.rest =
      sym x.grew ∙ (ap (λ l. f.before ++ l) gives.parts ∙ sym (append_assoc f.before gives.prefix gives.rest)) in
      cut_at D P s x.state x.actions x.out (f.before ++ gives.prefix) gives.rest held following g x.whole.0 x.whole.1 x.steps there is
      (Grows-Grows held after following f.before gives.prefix f.grew gives.appended);
}

-- all of what is in the room is written, or it is cut off
pub passes_all : {T E : Type 0} (held after : Option (List ℕ)) (r : Result T E) (room rest : List ℕ) → (room ≡ [] → ⊥) → rest ≡ [] → Writes held after r room
    → Passes held after r room rest
passes_all held after (Ok u) room rest some none w = (room, sym (append-nil room) ∙ ap (λ l. room ++ l) (sym none), w)
passes_all held after (Err e) room rest some none w = (some, w)
