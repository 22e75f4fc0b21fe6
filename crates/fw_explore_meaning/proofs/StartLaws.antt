-- Before any move: the place that the script leads to.
use Rattle.fw_explore_meaning.proofs.Common.{ℕ, zero, suc, ◌≡◌, ◌<◌, List, [], ◌∷◌, ◌++◌, Bool, true, false, IsTrue}
use Rattle.fw_explore_meaning.proofs.Common.{get_or, length, refl, sym, ap, subst, ◌∙◌, arith, All, Contains, Timed, Command, Machine}
use Rattle.fw_explore_meaning.proofs.Common.{
  DeskRelations,
  State,
  StandsFor,
  Entry,
  Walked,
  Rows,
  tallies,
  Explored,
  History,
  Subsequent,
  IsMove,
  IsCutOff,
  AreDone,
  Leads,
  LeadsTo,
  Comes,
  HasLines,
  Had,
}
use Rattle.fw_explore_meaning.proofs.Common.{IsPlacedKey, IsGoing}
use Rattle.std.proofs.Common.{◌^◌, replicate, slice_index, append-nil}
use Rattle.std.proofs.lemmas.Bool.{false≢true}
use Rattle.std.proofs.lemmas.List.Elements.{All-nil, All-cons}
use Rattle.fw_explore_levels.specs.Whole.{TwoRows, Totals, Walk}
use Rattle.fw_explore_levels.proofs.WholeLaws.{walk_starts}
use Rattle.fw_explore_told.specs.Histories.{first_history}
use Rattle.fw_explore_meaning.specs.Moves.{RunsTo}
use Rattle.fw_explore_meaning.specs.Steps.{IsFirstKey}
use Rattle.fw_explore_meaning.specs.Walking.{ArePlaced}

no_mark : (n p : ℕ) → get_or (replicate n false) p false ≡ false
no_mark zero p = refl
no_mark (suc n) zero = refl
no_mark (suc n) (suc p) = no_mark n p

module _ (D : DeskRelations) (script : List Command) (x : Explored) (log : List Timed) (state : State) (runs : RunsTo D script log state) where
  nothing_more : Subsequent D script [] [] state
  nothing_more = record {
    earlier = log;
    middle = state;
    prefix = runs;
    whole = subst (λ cs. RunsTo D cs (log ++ []) state) (sym (append-nil script)) (subst (λ l. RunsTo D script l state) (sym (append-nil log)) runs);
  }

  none_done : AreDone x [] first_history.done
  none_done p m at once = (
    (λ t. absurd (false≢true (sym (no_mark 32 p) ∙ t))),
    (λ c. let less = c.1 in absurd (omega (arith, less))),
  )

  pub leads_first : (m : Machine) → StandsFor m state → Leads D script x 0 first_history m []
  leads_first m stands = record { out = []; state = state; following = nothing_more; stands = stands; half_is = refl; done = none_done; said = refl }

  -- the walk begins there
  pub starts : (pasts : List History) (K : List ℕ → Machine → Type 0) (key : List ℕ) (m : Machine) → IsFirstKey (Had pasts) K m key → StandsFor m state → (levels : Walked) (rows : Rows)
      → levels.level ≡ record { key = key; ways = 1; first = [] } ∷ [] → levels.next ≡ [] → rows.list.items ≡ [] → rows.ended ≡ 0 → rows.cut ≡ 0 → IsGoing D script x pasts K 0 0 levels rows
  starts pasts K key m k stands levels rows level next none ended cut =
      let P : List ℕ → List ℕ → Type 0 = LeadsTo D script x (Had pasts) K in
      let first : P [] key = record {
        words = k.past_at ∷ 0 ∷ k.machine_at;
        key_is = k.key_is;
        small = k.small;
        at = record { past_at = k.past_at; half = 0; machine_at = k.machine_at; words_are = refl; past = first_history; had = k.had; machine = m; kept = k.kept; leads = leads_first m stands };
      } in
      let W : List Entry → List Entry → TwoRows → Totals → Type 0 = λ l o t s. Walk (IsMove D script x) P P (Comes D script x) (IsCutOff D script x) 0 l 0 0 o t s in
      record {
        walk = subst (λ l. W l levels.next (tallies rows.list.items) (record { ended = rows.ended; cut = rows.cut })) (sym level)
            (subst (λ o. W (record { key = key; ways = 1; first = [] } ∷ []) o (tallies rows.list.items) (record { ended = rows.ended; cut = rows.cut })) (sym next)
            (subst (λ rs. W (record { key = key; ways = 1; first = [] } ∷ []) [] (tallies rs) (record { ended = rows.ended; cut = rows.cut })) (sym none)
            (subst (λ s. W (record { key = key; ways = 1; first = [] } ∷ []) [] (tallies []) s) (λ j. record { ended = sym ended j; cut = sym cut j })
            (walk_starts (IsMove D script x) P P (Comes D script x) (IsCutOff D script x) key first))));
        lines = subst (All (HasLines D script x)) (sym none) (All-nil (HasLines D script x));
      }

-- a first place is one
pub first_placed : (H : ℕ → History → Type 0) (K : List ℕ → Machine → Type 0) (m : Machine) (key : List ℕ) → IsFirstKey H K m key → IsPlacedKey H K key
first_placed H K m key k = record {
  words = k.past_at ∷ 0 ∷ k.machine_at;
  key_is = k.key_is;
  small = k.small;
  placed = record { past_at = k.past_at; half = 0; machine_at = k.machine_at; words_are = refl; past = first_history; had = k.had; machine = m; kept = k.kept };
}

pub all_first : (H : ℕ → History → Type 0) (K : List ℕ → Machine → Type 0) (m : Machine) (key : List ℕ) (level : List Entry) → level ≡ record { key = key; ways = 1; first = [] } ∷ []
    → IsFirstKey H K m key
    → ArePlaced H K level
all_first H K m key level is k =
    subst (ArePlaced H K) (sym is) (All-cons (λ (e : Entry). IsPlacedKey H K e.key) (record { key = key; ways = 1; first = [] }) [] (first_placed H K m key k) (All-nil (λ (e : Entry). IsPlacedKey H K
    e.key)))
