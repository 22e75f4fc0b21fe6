-- Laws of places as entries, with the first schedule of each.
use Rattle.std.proofs.Common.{ℕ, ◌≡◌, ◌≢◌, ◌+◌, ◌<◌, min, List, [], ◌∷◌, ◌++◌, length, get_or, set, sym, ap, subst, ◌∙◌, inl, inr, arith}
use Rattle.std.specs.List.{All}
use Rattle.std.proofs.lemmas.List.{length-map, length-append, length_push, get_or-map, get_or_append_left, get_or_push, map-append, map-set, same_lists}
use Rattle.std.proofs.lemmas.List.Elements.{All-map, All-push, All-set}
use Rattle.fw_explore_levels.specs.Counting.{most_told}
use Rattle.fw_explore_levels.specs.Spots.{Spotted}
use Rattle.fw_explore_levels.specs.Tables.{Entry, IsReached}
use Rattle.fw_explore_levels.specs.Walked.{entry_of, entries_of, HaveSteps}

pub no_place : Spotted
no_place = record { key = []; ways = 0; step = 0 }

-- the entry of a place
pub entry_at : (paths : List (List ℕ)) (spots : List Spotted) (place : ℕ) (d : Spotted) (e : Entry) → place < length spots
    → get_or (entries_of paths spots) place e ≡ entry_of paths (get_or spots place d)
entry_at paths spots place d e h = get_or-map (entry_of paths) spots place d e h

-- ---- more steps

pub steps_stay : (paths more : List (List ℕ)) (spots : List Spotted) → HaveSteps paths spots → HaveSteps (paths ++ more) spots
steps_stay paths more spots have k d h = omega (arith, have k d h, length-append paths more)

pub entries_stay : (paths more : List (List ℕ)) (spots : List Spotted) → HaveSteps paths spots → entries_of (paths ++ more) spots ≡ entries_of paths spots
entries_stay paths more spots have =
    same_lists (entries_of (paths ++ more) spots) (entries_of paths spots) (length-map spots (entry_of (paths ++ more)) ∙ sym (length-map spots (entry_of paths)))
    (λ k d h.
    let inside : k < length spots = subst (λ n. k < n) (length-map spots (entry_of (paths ++ more))) h in
    let s = get_or spots k no_place in
    entry_at (paths ++ more) spots k no_place d inside
    ∙ ap (λ x. record { key = s.key; ways = s.ways; first = x }) (get_or_append_left paths more [] s.step (have k no_place inside))
    ∙ sym (entry_at paths spots k no_place d inside))

-- ---- a place that is reached again

pub have_count : (paths : List (List ℕ)) (spots : List Spotted) (place w : ℕ) (d : Spotted) → place < length spots → HaveSteps paths spots
    → HaveSteps paths (set spots place (record (get_or spots place d) { ways = w }))
have_count paths spots place w d h have = All-set (λ s. s.step < length paths) spots place (record (get_or spots place d) { ways = w }) (have place d h) have

pub found_again : (paths : List (List ℕ)) (spots : List Spotted) (place ways : ℕ) (d : Spotted) (key first : List ℕ) → place < length spots → (get_or spots place d).key ≡ key
    → IsReached (entries_of paths spots) (entries_of paths (set spots place (record (get_or spots place d) { ways = min most_told ((get_or spots place d).ways + ways) }))) key ways first
found_again paths spots place ways d key first h same =
    let s = get_or spots place d in
    inl (record {
      place = place;
      entry = entry_of paths s;
      within = subst (λ n. place < n) (sym (length-map spots (entry_of paths))) h;
      at = entry_at paths spots place d (entry_of paths s) h;
      same = same;
      is = map-set (entry_of paths) spots place (record s { ways = min most_told (s.ways + ways) });
    })

-- ---- a new one

pub have_more : (paths : List (List ℕ)) (path : List ℕ) (spots : List Spotted) (s : Spotted) → s.step ≡ length paths → HaveSteps paths spots → HaveSteps (paths ++ path ∷ []) (spots ++ s ∷ [])
have_more paths path spots s is have =
    All-push (λ x. x.step < length (paths ++ path ∷ [])) spots s (steps_stay paths (path ∷ []) spots have) (omega (arith, is, length_push paths path))

pub found_new : (paths : List (List ℕ)) (path : List ℕ) (spots : List Spotted) (key : List ℕ) (ways step : ℕ) → step ≡ length paths → HaveSteps paths spots → All (λ s. s.key ≢ key) spots
    → IsReached (entries_of paths spots) (entries_of (paths ++ path ∷ []) (spots ++ record { key = key; ways = ways; step = step } ∷ [])) key ways path
found_new paths path spots key ways step is have none =
    inr (record {
      none = All-map (λ e. e.key ≢ key) (entry_of paths) spots none;
      is =
          map-append (entry_of (paths ++ path ∷ [])) spots (record { key = key; ways = ways; step = step } ∷ [])
          ∙ ap (λ xs. xs ++ record { key = key; ways = ways; first = get_or (paths ++ path ∷ []) step [] } ∷ []) (entries_stay paths (path ∷ []) spots have)
          ∙ ap (λ x. entries_of paths spots ++ record { key = key; ways = ways; first = x } ∷ []) (get_or_push paths path [] step (sym is));
    })
