-- Laws of a walk over all schedules: how it begins, goes on at a move and if there is none, passes a place and a level, and ends.
use Rattle.std.proofs.Common.{ℕ, ◌≡◌, ◌+◌, ◌<◌, ◌↔◌, min, Option, Some, List, [], ◌∷◌, ◌++◌, length, refl, sym, ap, subst, ◌∙◌, inl, inr, arith}
use Rattle.std.proofs.lemmas.List.{length_push, nil_from_length, same_from_push}
use Rattle.fw_explore_levels.specs.Counting.{most_told, Counts}
use Rattle.fw_explore_levels.specs.Schedules.{Interleaving, IsOfLength}
use Rattle.fw_explore_levels.specs.Tables.{Entry, IsReached}
use Rattle.fw_explore_levels.specs.Walks.{IsAt, StandsAt, IsTaken, IsHead, IsUnderWay, LeadsOn, IsNoMove, IsEnded}
use Rattle.fw_explore_levels.specs.Whole.{Keyed, TwoRows, Totals, Walk, Whole}
use Rattle.fw_explore_levels.proofs.CountLaws.{counts_same, counts_none}
use Rattle.fw_explore_levels.proofs.TableLaws.{HasOneKey, table_same, table_keys}
use Rattle.fw_explore_levels.proofs.WalkLaws.{level_begins, walk_begins, walk_moves, walk_stays, walk_next, walk_ends, none_taken, not_taken, taken_more, taken_stays, taken_next, taken_all}
use Rattle.fw_explore_levels.proofs.RowLaws.{rows_begin, rows_stay, rows_end, rows_level, rows_whole, none_ended, ended_stays, total_ends, counts_of, ended_level, ended_all}
use Rattle.fw_explore_levels.proofs.AgreeLaws.{level_keys, taken_keys, rows_keys, totals_keys}
use Rattle.fw_explore_levels.proofs.KeyLaws.{keyed_once, with_key, IsWith, key_with, key_short, key_other, same_some}

module _ (M : List ℕ → ℕ → Type 0) (P Q E : List ℕ → List ℕ → Type 0) (C : List ℕ → Type 0) where
  -- ---- the beginning

  pub walk_starts : (key : List ℕ) → P [] key → Walk M P Q E C 0 (record { key = key; ways = 1; first = [] } ∷ []) 0 0 [] (record { ended = []; cut = [] }) (record { ended = 0; cut = 0 })
  walk_starts key p =
      let level : List Entry = record { key = key; ways = 1; first = [] } ∷ [] in
      let keys : List ℕ → Option (List ℕ) = λ w. Some key in
      record {
        keys = keys;
        level_is = level_begins M (Keyed keys) key refl;
        under = walk_begins M (Keyed keys) 0 level;
        right = λ w k h e. subst (λ v. P v k) (sym (nil_from_length w h.size)) (subst (P []) (same_some key k e) p);
        right_next = λ w k h e. absurd (none_taken M (Keyed keys) 0 level w h);
        ended = rows_begin M (Keyed keys) E (λ w. C w → ⊥) level;
        cut = rows_begin M (Keyed keys) E C level;
        all_ended = counts_none (λ w. IsEnded M (Keyed keys) 0 level 0 w × (C w → ⊥)) (λ w h. none_ended M (Keyed keys) level w h.0);
        all_cut = counts_none (λ w. IsEnded M (Keyed keys) 0 level 0 w × C w) (λ w h. none_ended M (Keyed keys) level w h.0);
      }

  -- ---- at a place

  module _ (n : ℕ) (level : List Entry) (i : ℕ) (e : Entry) (stands : StandsAt level i e) (rows : TwoRows) (totals : Totals) where
    -- a move leads to a key
    pub walk_on : (p : ℕ) (key : List ℕ) (next next' : List Entry) → ((w : List ℕ) → IsOfLength M n w → P w e.key → M w p × Q (w ++ p ∷ []) key)
        → IsReached next next' key e.ways (e.first ++ p ∷ []) → Walk M P Q E C n level i p next rows totals → Walk M P Q E C n level i (p + 1) next' rows totals
    walk_on p key next next' on reached walk =
        let keys = walk.keys in
        let keys' = with_key keys n e.key p key in
        let agree : (w k : List ℕ) → length w ≡ n → Keyed keys w k ↔ Keyed keys' w k = λ w k size.
        let same : keys' w ≡ keys w = key_short keys n e.key p key w (omega (arith, size)) in (λ x. same ∙ x, λ x. sym same ∙ x) in
        let level_is' = level_keys M (Keyed keys) (Keyed keys') n agree level walk.level_is in
        let taken = taken_keys M (Keyed keys) (Keyed keys') n agree level i p in
        let not_with : (w : List ℕ) → IsTaken M (Keyed keys) n level i p w → IsWith keys n e.key p key w → ⊥ = λ w t h.
        let parts = same_from_push h.before t.before p t.last (sym h.is ∙ t.is) in
        not_taken M (Keyed keys) (keyed_once keys) n level walk.level_is i p e stands w (
          t.before,
          h.is
              ∙ ap (λ x. x ++ p ∷ []) parts.0,
          record { is = t.there.is; leads = subst (λ x. Keyed keys x e.key) parts.0 h.key },
        ) t in
        let stays : (w k : List ℕ) → IsTaken M (Keyed keys) n level i p w → Keyed keys w k ↔ Keyed keys' w k = λ w k t.
        let size : length w ≡ n + 1 = ap length t.is ∙ length_push t.before t.last ∙ ap (λ x. x + 1) t.there.is.size in
        let same : keys' w ≡ keys w = key_other keys n e.key p key w size (not_with w t) in (λ x. same ∙ x, λ x. sym same ∙ x) in
        let under' : IsUnderWay M (Keyed keys') n level i p next =
        table_same (IsTaken M (Keyed keys) n level i p) (IsTaken M (Keyed keys) n level i p) (IsHead level i p) (IsTaken M (Keyed keys') n level i p) (IsTaken M (Keyed keys') n level i p)
        (IsHead level i p) (Keyed keys') next taken taken (λ f h. h)
        (table_keys (IsTaken M (Keyed keys) n level i p) (IsTaken M (Keyed keys) n level i p) (IsHead level i p) (Keyed keys) (Keyed keys') next (λ w c. c) stays walk.under) in
        let leads_on : LeadsOn M (Keyed keys') n e p key = λ w a.
        let back : Keyed keys w e.key = (agree w e.key a.is.size).1 a.leads in
        ((on w a.is (walk.right w e.key a.is back)).0, key_with keys n e.key p key (w ++ p ∷ []) (record { before = w; is = refl; size = a.is.size; key = back })) in
        record {
          keys = keys';
          level_is = level_is';
          under = walk_moves M (Keyed keys') (keyed_once keys') n level level_is' i p e stands key next next' leads_on reached under';
          right = λ w k h f. walk.right w k h ((agree w k h.size).1 f);
          right_next = λ w k t f. elim ((taken_more M (Keyed keys') (keyed_once keys') n level level_is' i p e stands key leads_on w).1 t) [
            | inl old ↦ let before = (taken w).1 old in walk.right_next w k before ((stays w k before).1 f)
            | inr new ↦
                let back : Keyed keys new.0 e.key = (agree new.0 e.key new.2.is.size).1 new.2.leads in
                let is_key : k ≡ key = same_some k key (sym f ∙ key_with keys n e.key p key w (record { before = new.0; is = new.1; size = new.2.is.size; key = back })) in
                subst (Q w) (sym is_key) (subst (λ x. Q x key) (sym new.1) (on new.0 new.2.is (walk.right new.0 e.key new.2.is back)).1)
          ];
          ended = rows_keys M (Keyed keys) (Keyed keys') n agree level E (λ w. C w → ⊥) i rows.ended walk.ended;
          cut = rows_keys M (Keyed keys) (Keyed keys') n agree level E C i rows.cut walk.cut;
          all_ended = totals_keys M (Keyed keys) (Keyed keys') n agree level (λ w. C w → ⊥) i totals.ended walk.all_ended;
          all_cut = totals_keys M (Keyed keys) (Keyed keys') n agree level C i totals.cut walk.all_cut;
        }

    -- it is a move of none of the schedules that lead to the place
    pub walk_by : (p : ℕ) (next : List Entry) → ((w : List ℕ) → IsOfLength M n w → P w e.key → M w p → ⊥) → Walk M P Q E C n level i p next rows totals
        → Walk M P Q E C n level i (p + 1) next rows totals
    walk_by p next never walk =
        let none : IsNoMove M (Keyed walk.keys) n e p = λ w a. never w a.is (walk.right w e.key a.is a.leads) in
        record {
          keys = walk.keys;
          level_is = walk.level_is;
          under = walk_stays M (Keyed walk.keys) (keyed_once walk.keys) n level walk.level_is i p e stands next none walk.under;
          right = walk.right;
          right_next = λ w k t f. walk.right_next w k ((taken_stays M (Keyed walk.keys) (keyed_once walk.keys) n level walk.level_is i p e stands none w).1 t) f;
          ended = walk.ended;
          cut = walk.cut;
          all_ended = walk.all_ended;
          all_cut = walk.all_cut;
        }

    -- ---- after a place, all of whose moves are taken: there are none from m on

    module _ (m : ℕ) (bound : (w : List ℕ) (q : ℕ) → M w q → q < m) (next : List Entry) (walk : Walk M P Q E C n level i m next rows totals) where
      -- it has a move
      pub walk_leaves : ((w : List ℕ) → IsOfLength M n w → P w e.key → (q : ℕ) × M w q) → Walk M P Q E C n level (i + 1) 0 next rows totals
      walk_leaves has =
          let K = Keyed walk.keys in
          let one = keyed_once walk.keys in
          let moves : (w : List ℕ) → IsAt M K n e w → (q : ℕ) × M w q = λ w a. has w a.is (walk.right w e.key a.is a.leads) in
          let same = ended_stays M K one n level walk.level_is i e stands moves in
          record {
            keys = walk.keys;
            level_is = walk.level_is;
            under = walk_next M K n level m bound i next walk.under;
            right = walk.right;
            right_next = λ w k t f. walk.right_next w k ((taken_next M K n level m bound i w).1 t) f;
            ended = rows_stay M K one n level walk.level_is i e stands moves E (λ w. C w → ⊥) rows.ended walk.ended;
            cut = rows_stay M K one n level walk.level_is i e stands moves E C rows.cut walk.cut;
            all_ended = counts_same (λ w. IsEnded M K n level i w × (C w → ⊥)) (λ w. IsEnded M K n level (i + 1) w × (C w
                → ⊥)) totals.ended (λ w. (λ p. ((same w).0 p.0, p.1), λ p. ((same w).1 p.0, p.1))) walk.all_ended;
            all_cut = counts_same (λ w. IsEnded M K n level i w × C w) (λ w. IsEnded M K n level (i + 1) w × C w) totals.cut (λ w. (
              λ p. ((same w).0 p.0, p.1),
              λ p.
                  ((same w).1 p.0, p.1),
            )) walk.all_cut;
          }

      -- it has none: its schedules are interleavings with this ending, so many of them ended and so many cut off
      pub walk_rests : (one_ending : HasOneKey E) → ((w : List ℕ) → IsOfLength M n w → P w e.key → (q : ℕ) → M w q → ⊥) → (ending : List ℕ) → ((w : List ℕ) → IsOfLength M n w → P w e.key
          → E w ending)
          → (ways cut : ℕ) → Counts (λ w. IsAt M (Keyed walk.keys) n e w × (C w → ⊥)) ways → Counts (λ w. IsAt M (Keyed walk.keys) n e w × C w) cut
          → (rows' : TwoRows) → IsReached rows.ended rows'.ended ending ways e.first → IsReached rows.cut rows'.cut ending cut e.first
          → Walk M P Q E C n level (i + 1) 0 next rows' (record { ended = min most_told (totals.ended + ways); cut = min most_told (totals.cut + cut) })
      walk_rests one_ending never ending at ways cut counts_ended counts_cut rows' reached_ended reached_cut =
          let K = Keyed walk.keys in
          let one = keyed_once walk.keys in
          let ends : (w : List ℕ) → IsAt M K n e w → (q : ℕ) → M w q → ⊥ = λ w a. never w a.is (walk.right w e.key a.is a.leads) in
          let ending_at : (w : List ℕ) → IsAt M K n e w → E w ending = λ w a. at w a.is (walk.right w e.key a.is a.leads) in
          record {
            keys = walk.keys;
            level_is = walk.level_is;
            under = walk_next M K n level m bound i next walk.under;
            right = walk.right;
            right_next = λ w k t f. walk.right_next w k ((taken_next M K n level m bound i w).1 t) f;
            ended = rows_end M K one n level walk.level_is i e stands ends (λ w. C w → ⊥) ways counts_ended E one_ending ending ending_at rows.ended rows'.ended reached_ended walk.ended;
            cut = rows_end M K one n level walk.level_is i e stands ends C cut counts_cut E one_ending ending ending_at rows.cut rows'.cut reached_cut walk.cut;
            all_ended = total_ends M K one n level walk.level_is i e stands ends (λ w. C w → ⊥) ways counts_ended totals.ended walk.all_ended;
            all_cut = total_ends M K one n level walk.level_is i e stands ends C cut counts_cut totals.cut walk.all_cut;
          }

    -- all schedules of the place are cut off, or none
    module _ (walk : (m : ℕ) × (next : List Entry) × Walk M P Q E C n level i m next rows totals) (cuts : (w : List ℕ) → IsOfLength M n w → P w e.key → C w) where
      pub cut_ways : Counts (λ w. IsAt M (Keyed walk.2.keys) n e w × C w) e.ways
      cut_ways = counts_of M (Keyed walk.2.keys) (keyed_once walk.2.keys) n level walk.2.level_is i e stands C (λ w a. cuts w a.is (walk.2.right w e.key a.is a.leads))

      pub cut_none : Counts (λ w. IsAt M (Keyed walk.2.keys) n e w × (C w → ⊥)) 0
      cut_none = counts_none (λ w. IsAt M (Keyed walk.2.keys) n e w × (C w → ⊥)) (λ w p. p.1 (cuts w p.0.is (walk.2.right w e.key p.0.is p.0.leads)))

    module _ (walk : (m : ℕ) × (next : List Entry) × Walk M P Q E C n level i m next rows totals) (ends : (w : List ℕ) → IsOfLength M n w → P w e.key → C w → ⊥) where
      pub ended_ways : Counts (λ w. IsAt M (Keyed walk.2.keys) n e w × (C w → ⊥)) e.ways
      ended_ways = counts_of M (Keyed walk.2.keys) (keyed_once walk.2.keys) n level walk.2.level_is i e stands (λ w. C w → ⊥) (λ w a. ends w a.is (walk.2.right w e.key a.is a.leads))

      pub ended_none : Counts (λ w. IsAt M (Keyed walk.2.keys) n e w × C w) 0
      ended_none = counts_none (λ w. IsAt M (Keyed walk.2.keys) n e w × C w) (λ w p. ends w p.0.is (walk.2.right w e.key p.0.is p.0.leads) p.1)

  -- ---- from level to level, and the end

  module _ (n : ℕ) (level : List Entry) (rows : TwoRows) (totals : Totals) where
    pub walk_turns : (next : List Entry) (R : List ℕ → List ℕ → Type 0) → Walk M P Q E C n level (length level) 0 next rows totals → Walk M Q R E C (n + 1) next 0 0 [] rows totals
    walk_turns next R walk =
        let K = Keyed walk.keys in
        let same = ended_level M K n level walk.level_is next in
        record {
          keys = walk.keys;
          level_is = walk_ends M K n level walk.level_is next walk.under;
          under = walk_begins M K (n + 1) next;
          right = λ w k h f. walk.right_next w k ((taken_all M K n level walk.level_is w).1 h) f;
          right_next = λ w k t f. absurd (none_taken M K (n + 1) next w t);
          ended = rows_level M K n level walk.level_is E (λ w. C w → ⊥) next rows.ended walk.ended;
          cut = rows_level M K n level walk.level_is E C next rows.cut walk.cut;
          all_ended = counts_same (λ w. IsEnded M K n level (length level) w × (C w → ⊥)) (λ w. IsEnded M K (n + 1) next 0 w × (C w
              → ⊥)) totals.ended (λ w. (λ p. ((same w).0 p.0, p.1), λ p. ((same w).1 p.0, p.1))) walk.all_ended;
          all_cut = counts_same (λ w. IsEnded M K n level (length level) w × C w) (λ w. IsEnded M K (n + 1) next 0 w × C w) totals.cut (λ w. (
            λ p. ((same w).0 p.0, p.1),
            λ p.
                ((same w).1 p.0, p.1),
          )) walk.all_cut;
        }

  -- no place is left
  pub walk_is_whole : (n : ℕ) (next : List Entry) (rows : TwoRows) (totals : Totals) → Walk M P Q E C n [] 0 0 next rows totals → Whole M E C rows totals
  walk_is_whole n next rows totals walk =
      let K = Keyed walk.keys in
      let all = ended_all M K n walk.level_is in
      record {
        ended = rows_whole M K n walk.level_is E (λ w. C w → ⊥) rows.ended walk.ended;
        cut = rows_whole M K n walk.level_is E C rows.cut walk.cut;
        all_ended = counts_same (λ w. IsEnded M K n [] 0 w × (C w → ⊥)) (λ w. Interleaving M w × (C w → ⊥)) totals.ended (λ w. (λ p. ((all w).0 p.0, p.1), λ p. ((all w).1 p.0, p.1))) walk.all_ended;
        all_cut = counts_same (λ w. IsEnded M K n [] 0 w × C w) (λ w. Interleaving M w × C w) totals.cut (λ w. (λ p. ((all w).0 p.0, p.1), λ p. ((all w).1 p.0, p.1))) walk.all_cut;
      }

-- what a key stands for may be told in more words
pub walk_wider : (M : List ℕ → ℕ → Type 0) (P P' Q Q' E : List ℕ → List ℕ → Type 0) (C : List ℕ → Type 0) (n : ℕ) (level : List Entry) (i p : ℕ) (next : List Entry) (rows : TwoRows)
    (totals : Totals) → ((w k : List ℕ) → P w k → P' w k) → ((w k : List ℕ) → Q w k → Q' w k) → Walk M P Q E C n level i p next rows totals → Walk M P' Q' E C n level i p next rows totals
walk_wider M P P' Q Q' E C n level i p next rows totals wider wider_next walk = record {
  keys = walk.keys;
  level_is = walk.level_is;
  under = walk.under;
  right = λ w k h f. wider w k (walk.right w k h f);
  right_next = λ w k h f. wider_next w k (walk.right_next w k h f);
  ended = walk.ended;
  cut = walk.cut;
  all_ended = walk.all_ended;
  all_cut = walk.all_cut;
}
