-- What is kept of the controllers stays so if one is changed, and its marks are taken back.
use Rattle.fw_bus_state.proofs.Common.{◌≡◌, ◌≢◌, ◌⊎◌, inl, inr, ℕ, ◌<◌, ◌≤◌, List, Bool, false, length, slice_index_or, slice_set, ap, sym, subst, ◌∙◌, arith, cases_eq, IsTrue, IsFalse}
use Rattle.fw_bus_state.proofs.Common.{get_or-set_other, get_or-set_same, length-set, IsAtRest, Listening, first_listening, update}
use Rattle.fw_bus_state.proofs.Common.{count_of, states_of}
use Rattle.std.specs.Prelude.{vec_capacity}
use Rattle.fw_bus_state.specs.contracts.controllers.Controllers.{the_view}
use Rattle.fw_bus_state.specs.declared.controllers.Controllers.TheInside.{Inside}
use Rattle.fw_bus_state.specs.Tables.{AreCalm, AreFresh, AreHearing, AreMarked, ControllerTable, IsRoomy, IsTable, dead_of}
use Rattle.std.proofs.lemmas.List.{get_or_read}
use Rattle.fw_bus_state.proofs.Tables.{hearing_put, marked_put, new_rests, set_is_update, unmarked}

-- what is kept of the controllers, by the parts of the table
abbrev pub AreKept : List Listening → ℕ → List Bool → List Bool → List Bool → Bool → Type 0
AreKept list room flags calm fresh deaf = IsRoomy (record { list = list; flags = flags }) room × AreCalm calm list × AreFresh fresh list × AreHearing deaf list

-- no response was lost that had not been before
abbrev pub Keeps : Bool → Bool → Listening → Listening → Type 0
Keeps before after x y = IsFalse after → IsFalse before × (IsFalse x.lost → IsFalse y.lost)

-- a change that leaves a controller's losses as they are
pub same_losses : (deaf : Bool) (x y : Listening) → y.lost ≡ x.lost → Keeps deaf deaf x y
same_losses deaf x y same = λ none. (none, λ heard. same ∙ heard)

-- there are as many as before
few_set : (list : List Listening) (i : ℕ) (y : Listening) → length list ≤ 63 → length (slice_set list i y) ≤ 63
few_set list i y few = let same = length-set list i y in omega (arith, same, few)

-- one controller was found at the device, and is another one now
pub touched : (inside : Inside) (t : ControllerTable) (flags : List Bool) (after : Bool) (d i j k : ℕ) (x y : Listening) → the_view inside ≡ t → d < count_of t
    → i ≡ d → j ≡ d → k ≡ d → x ≡ slice_index_or inside.list.items i x → length flags ≡ length inside.dead → Keeps inside.deaf after x y
    → AreKept inside.list.items (vec_capacity inside.list) inside.dead inside.calm inside.fresh inside.deaf
    → AreKept (slice_set inside.list.items i y) (vec_capacity inside.list) flags (slice_set inside.calm j false) (slice_set inside.fresh k false) after
touched inside t flags after d i j k x y is lt at_list at_calm at_fresh found same keeps kept =
    let list : List Listening = inside.list.items in
    let size = ap count_of is in
    let within : d < length list = omega (arith, size, lt) in
    let few = kept.0.few in (
      record { few = few_set list i y few; enough = kept.0.enough; size = same ∙ kept.0.size },
      marked_put (λ (z : Listening). IsAtRest z.state) inside.calm list d i j false y kept.1 within few at_list at_calm (unmarked _),
      marked_put (λ z. z ≡ first_listening) inside.fresh list d i k false y kept.2 within few at_list at_fresh (unmarked _),
      λ none. hearing_put inside.deaf list i x y kept.3 (omega (arith, within, at_list)) found (keeps none).1 (keeps none).0,
    )

-- ---- marks that stay

-- what marks say of a controller, they say of what it becomes
pub record Passes (x y : Listening) : Type 0 where
  pub rests : IsAtRest x.state → IsAtRest y.state
  pub fresh : x ≡ first_listening → y ≡ first_listening
  pub heard : IsFalse x.lost → IsFalse y.lost

-- it stays as it is
pub passes_same : (x y : Listening) → y ≡ x → Passes x y
passes_same x y same = record {
  rests = subst (λ (z : Listening). IsAtRest z.state) (sym same);
  fresh = λ new. same ∙ new;
  heard = λ none. ap (λ (z : Listening). z.lost) same ∙ none;
}

-- it has something to do, so that no mark speaks of it
pub passes_busy : (x y : Listening) → (IsAtRest x.state → ⊥) → (IsFalse x.lost → IsFalse y.lost) → Passes x y
passes_busy x y busy keeps = record {
  rests = λ rest. absurd (busy rest);
  fresh = λ new. absurd (busy (subst (λ (z : Listening). IsAtRest z.state) (sym new) new_rests));
  heard = keeps;
}

-- one controller is another one, of which its mark says what it said
pub marked_keeps : (says : Listening → Type 0) (marks : List Bool) (list : List Listening) (i : ℕ) (x y : Listening) → AreMarked says marks list → i < length list
    → x ≡ slice_index_or list i x → (says x → says y) → AreMarked says marks (slice_set list i y)
marked_keeps says marks list i x y h lt found keeps = record { size = h.size; each = λ k marked. go k marked (cases_eq k i) }
  where
    go : (k : ℕ) → IsTrue (slice_index_or marks k false) → (k ≡ i) ⊎ (k ≢ i) → says (slice_index_or (slice_set list i y) k first_listening)
    go k marked (inl same) =
        let here : slice_index_or (slice_set list i y) k first_listening ≡ y =
        ap (λ j. slice_index_or (slice_set list i y) j first_listening) same ∙ get_or-set_same list i y first_listening lt in
        let before : slice_index_or list k first_listening ≡ x = ap (λ j. slice_index_or list j first_listening) same ∙ sym (get_or_read list i x lt found first_listening) in
        subst says (sym here) (keeps (subst says before (h.each k marked)))
    go k marked (inr other) = subst says (sym (get_or-set_other list i k y first_listening other)) (h.each k marked)

-- one controller was found at the device, and is another one now, and all marks stay
pub stays : (inside : Inside) (t : ControllerTable) (d i : ℕ) (x y : Listening) → the_view inside ≡ t → d < count_of t → i ≡ d → x ≡ slice_index_or inside.list.items i x
    → (x ≡ states_of t d → Passes x y) → AreKept inside.list.items (vec_capacity inside.list) inside.dead inside.calm inside.fresh inside.deaf
    → AreKept (slice_set inside.list.items i y) (vec_capacity inside.list) inside.dead inside.calm inside.fresh inside.deaf
stays inside t d i x y is lt at_list found goes kept =
    let list : List Listening = inside.list.items in
    let size = ap count_of is in
    let within : i < length list = omega (arith, size, lt, at_list) in
    let here : x ≡ states_of t d =
    get_or_read list i x within found first_listening ∙ (ap (λ j. slice_index_or list j first_listening) at_list ∙ ap (λ (w : ControllerTable). states_of w d) is) in
    let passes : Passes x y = goes here in (
      record { few = few_set list i y kept.0.few; enough = kept.0.enough; size = kept.0.size },
      marked_keeps (λ (z : Listening). IsAtRest z.state) inside.calm list i x y kept.1 within found passes.rests,
      marked_keeps (λ z. z ≡ first_listening) inside.fresh list i x y kept.2 within found passes.fresh,
      hearing_put inside.deaf list i x y kept.3 within found passes.heard,
    )

-- ---- a new controller

-- one controller is a new one, and its flag is another one
pub renewed : (inside : Inside) (t : ControllerTable) (d i j : ℕ) (b : Bool) (y : Listening) → the_view inside ≡ t → d < count_of t → IsRoomy (the_view inside) (vec_capacity inside.list)
    → i ≡ d → j ≡ d → y ≡ first_listening
    → IsTable (record { list = slice_set inside.list.items i y; flags = slice_set inside.dead j b }) (count_of t) (update (states_of t) d first_listening) (update (dead_of t) d b)
renewed inside t d i j b y is lt room at_list at_flag new = record {
  count_is = length-set list i y ∙ size;
  states_are = (λ n. λ k. slice_index_or (slice_set list (at_list n) (new n)) k first_listening)
      ∙ (set_is_update list d first_listening first_listening within ∙ ap (λ (w : ControllerTable). update (states_of w) d first_listening) is);
  dead_are = (λ n. λ k. slice_index_or (slice_set flags (at_flag n) b) k false)
      ∙ (set_is_update flags d b false low ∙ ap (λ (w : ControllerTable). update (dead_of w) d b) is);
}
  where
    list : List Listening
    list = inside.list.items

    flags : List Bool
    flags = inside.dead

    size : length list ≡ count_of t
    size = ap count_of is

    within : d < length list
    within = omega (arith, size, lt)

    low : d < length flags
    low = let few = room.few in let all = room.size in omega (arith, within, few, all)
