-- Where a mover has led: the numbers of its history and of its machine are a key.
use Rattle.fw_explore_meaning.proofs.Common.{ℕ, ◌≡◌, ◌+◌, ◌<◌, List, [], ◌∷◌, ◌++◌, get_or, length, refl, sym, ap, subst, ◌∙◌, arith, Timed, Machine, MoverKind, History, told_entries, Had, IsWiderBy}
use Rattle.fw_explore_meaning.proofs.Common.{IsPlacedKey}
use Rattle.std.proofs.Common.{◌^◌, slice_index, length-append}
use Rattle.std.proofs.lemmas.List.{get_or_append_left}
use Rattle.fw_kept_parts.specs.Tables.{Keeps}
use Rattle.fw_kept_parts.specs.Words.{bytes_of}
use Rattle.fw_explore_meaning.specs.Steps.{IsArrived, IsPlaced, past_in, half_in, half_after, marked, history_after}

-- what a table kept it keeps, if it keeps one more
abbrev SameHistory : History → History → Type 0
SameHistory kept past = kept ≡ past

pub had_kept : (old new : List History) (past : History) (n : ℕ) → Keeps SameHistory old new past n → Had new n past
had_kept old new past n k = record { within = k.within; at = k.at }

pub had_still : (old new : List History) (past : History) (n : ℕ) → Keeps SameHistory old new past n → (k : ℕ) (other : History) → Had old k other → Had new k other
had_still old new past n kept k other h = record {
  within = let size : length new ≡ length (old ++ kept.more) = ap length kept.is in let less = h.within in omega (arith, size, less, length-append old kept.more);
  at = λ d. ap (λ xs. get_or xs k d) kept.is ∙ get_or_append_left old kept.more d k h.within ∙ h.at d;
}

module _ (pasts pasts' : List History) (Kept Kept' : List ℕ → Machine → Type 0) (here there key : List ℕ) (m : Machine) (copy whole : History) (n half p : ℕ) (kind : MoverKind)
    (copied : (d : History) → copy ≡ get_or pasts (past_in here) d) (keeps : Keeps SameHistory pasts pasts' whole n) (kept : Kept' there m)
    (half_is : half ≡ half_after kind (half_in here)) (key_is : key ≡ bytes_of (n ∷ half ∷ there)) (small : (k : ℕ) → slice_index (n ∷ half ∷ there) k < 2 ^ 32) where
  pub arrived : (out : List Timed) (past : History) → Had pasts (past_in here) past → whole ≡ marked kind p (record { done = copy.done; said = copy.said ++ told_entries out })
      → IsArrived (Had pasts') Kept' m past (half_in here) out p kind key
  arrived out past had is =
      let same : copy ≡ past = copied past ∙ had.at past in
      record {
        past_at = n;
        machine_at = there;
        key_is = key_is ∙ ap (λ h. bytes_of (n ∷ h ∷ there)) half_is;
        small = subst (λ h. (k : ℕ) → slice_index (n ∷ h ∷ there) k < 2 ^ 32) half_is small;
        had = subst (Had pasts' n) (is ∙ ap (λ (h : History). history_after kind p out h) same) (had_kept pasts pasts' whole n keeps);
        kept = kept;
      }

  -- and a place, whatever leads there
  pub placed : IsPlacedKey (Had pasts') Kept' key
  placed = record {
    words = n ∷ half ∷ there;
    key_is = key_is;
    small = small;
    placed = record {
      past_at = n;
      half = half;
      machine_at = there;
      words_are = refl;
      past = whole;
      had = had_kept pasts pasts' whole n keeps;
      machine = m;
      kept = kept;
    };
  }

  pub wider : ((words : List ℕ) (o : Machine) → Kept words o → Kept' words o) → IsWiderBy (Had pasts) (Had pasts') Kept Kept'
  wider machines = record { pasts = had_still pasts pasts' whole n keeps; machines = machines }
