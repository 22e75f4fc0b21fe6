-- The first word that a form refuses.
use Rattle.std.proofs.Common.{◌≡◌, ℕ, zero, suc, ◌+◌, ◌<◌, ◌&&◌, List, [], ◌∷◌, length, slice_index_or, Bool, true, false, cond, Option, Some, None, refl, ap, subst, arith}
use Rattle.std.proofs.lemmas.Bool.{and_parts}
use Rattle.std.proofs.lemmas.Option.{same_Some}
use Rattle.fw_script_command.proofs.TableLaws.{one_table}
use Rattle.fw_script_command.specs.Types.{are_fitting, fits, may_lack, types_of}
use Rattle.fw_script_command.specs.declared.word_type.WordType.{WordType}
use Rattle.fw_script_command.specs.declared.word_type.WordType.TheVariants.{Name}
use Rattle.fw_check.specs.Laws.{EarlierFit, IsRefusedAt, NoneIsACommand, ToldIsRefused, number_of}
use Rattle.fw_check.specs.Misfits.{HasNumber, first_misfit, misfit_at, or_misfit}
use Rattle.fw_check.specs.declared.misfit.Misfit.{Misfit}
use Rattle.fw_check.specs.declared.misfit.Misfit.TheVariants.{Missing, Unfit, Extra}

-- a test that leaves no misfit
passed : (b : Bool) (m : Misfit) → cond b None (Some m) ≡ None → b ≡ true
passed true m e = refl
passed false m e = absurd cc

parts : (o p : Option Misfit) → or_misfit o p ≡ None → (o ≡ None) × (p ≡ None)
parts None p e = (refl, e)
parts (Some m) p e = absurd cc

joined : (o p : Option Misfit) → o ≡ None → p ≡ None → or_misfit o p ≡ None
joined None p e f = f
joined (Some m) p e f = absurd cc

both : (a b : Bool) → a ≡ true → b ≡ true → (a && b) ≡ true
both true b e f = f
both false b e f = absurd cc

none_fits : (k : ℕ) (ts : List WordType) (ws : List (List ℕ)) → first_misfit k ts ws ≡ None → are_fitting ts ws ≡ true
none_fits k [] [] e = refl
none_fits k [] (w ∷ ws) e = absurd cc
none_fits k (t ∷ ts) [] e =
    let p = parts (misfit_at k t []) (first_misfit (k + 1) ts []) e in
    both (may_lack t) (are_fitting ts []) (passed (may_lack t) (Missing k t) p.0) (none_fits (k + 1) ts [] p.1)
none_fits k (t ∷ ts) (w ∷ ws) e =
    let p = parts (misfit_at k t (w ∷ ws)) (first_misfit (k + 1) ts ws) e in
    both (fits t w) (are_fitting ts ws) (passed (fits t w) (Unfit k t) p.0) (none_fits (k + 1) ts ws p.1)

fits_none : (k : ℕ) (ts : List WordType) (ws : List (List ℕ)) → are_fitting ts ws ≡ true → first_misfit k ts ws ≡ None
fits_none k [] [] e = refl
fits_none k [] (w ∷ ws) e = absurd cc
fits_none k (t ∷ ts) [] e =
    let p = and_parts (may_lack t) (are_fitting ts []) e in
    joined (misfit_at k t []) (first_misfit (k + 1) ts []) (ap (λ (b : Bool). cond b None (Some (Missing k t))) p.0) (fits_none (k + 1) ts [] p.1)
fits_none k (t ∷ ts) (w ∷ ws) e =
    let p = and_parts (fits t w) (are_fitting ts ws) e in
    joined (misfit_at k t (w ∷ ws)) (first_misfit (k + 1) ts ws) (ap (λ (b : Bool). cond b None (Some (Unfit k t))) p.0) (fits_none (k + 1) ts ws p.1)

pub none_is_command : NoneIsACommand
none_is_command k ws = (λ e. (one_table k ws).0 (none_fits 2 (types_of k) ws e), λ x. fits_none 2 (types_of k) ws ((one_table k ws).1 x))

-- ---- the words before it

-- by the test of the first word, and what is so of those after it
earlier_at : (k : ℕ) (t : WordType) (ts : List WordType) (w : List ℕ) (ws : List (List ℕ)) (m : Misfit)
    → (first_misfit (k + 1) ts ws ≡ Some m → (j : ℕ) → j < length ws → j + (k + 1) < number_of m → fits (slice_index_or ts j Name) (slice_index_or ws j []) ≡ true)
    → (b : Bool) → fits t w ≡ b → or_misfit (cond b None (Some (Unfit k t))) (first_misfit (k + 1) ts ws) ≡ Some m → (i : ℕ) → i < length (w ∷ ws) → i + k < number_of m
    → fits (slice_index_or (t ∷ ts) i Name) (slice_index_or (w ∷ ws) i []) ≡ true
earlier_at k t ts w ws m later true is rest zero lt before = is
earlier_at k t ts w ws m later true is rest (suc j) lt before = later rest j (omega arith) (omega arith)
earlier_at k t ts w ws m later false is rest i lt before = let same : k ≡ number_of m = ap number_of (same_Some (Unfit k t) m rest) in absurd (omega (arith, same, before))

earlier : (k : ℕ) (ts : List WordType) (ws : List (List ℕ)) (m : Misfit) → first_misfit k ts ws ≡ Some m → (i : ℕ) → i < length ws → i + k < number_of m
    → fits (slice_index_or ts i Name) (slice_index_or ws i []) ≡ true
earlier k [] [] m e i lt before = absurd (omega (arith, lt))
earlier k [] (w ∷ ws) m e i lt before = let same : k ≡ number_of m = ap number_of (same_Some (Extra k) m e) in absurd (omega (arith, same, before))
earlier k (t ∷ ts) [] m e i lt before = absurd (omega (arith, lt))
earlier k (t ∷ ts) (w ∷ ws) m e i lt before = earlier_at k t ts w ws m (earlier (k + 1) ts ws m) (fits t w) refl e i lt before

pub earlier_fit : EarlierFit
earlier_fit k ws m e i lt before = earlier 2 (types_of k) ws m e i lt before

-- ---- the word itself

-- what is refused among the words after the first
refused_later : (k : ℕ) (t : WordType) (ts : List WordType) (w : List ℕ) (ws : List (List ℕ)) (m : Misfit) → IsRefusedAt (k + 1) ts ws m → IsRefusedAt k (t ∷ ts) (w ∷ ws) m
refused_later k t ts w ws (Missing number u) h = (suc h.0, omega arith, h.2, omega arith, h.4)
refused_later k t ts w ws (Unfit number u) h = (suc h.0, omega arith, h.2, omega arith, h.4)
refused_later k t ts w ws (Extra number) h = (omega arith, omega arith)

-- when no word is left
refused_after : (k : ℕ) (t : WordType) (ts : List WordType) (m : Misfit) → IsRefusedAt (k + 1) ts [] m → IsRefusedAt k (t ∷ ts) [] m
refused_after k t ts (Missing number u) h = (suc h.0, omega arith, h.2, omega arith, h.4)
refused_after k t ts (Unfit number u) h = absurd (omega arith)
refused_after k t ts (Extra number) h = absurd (omega arith)

-- by the test of the first word, and what is so of those after it
missing_at : (k : ℕ) (t : WordType) (ts : List WordType) (m : Misfit) → (first_misfit (k + 1) ts [] ≡ Some m → IsRefusedAt (k + 1) ts [] m)
    → (b : Bool) → may_lack t ≡ b → or_misfit (cond b None (Some (Missing k t))) (first_misfit (k + 1) ts []) ≡ Some m → IsRefusedAt k (t ∷ ts) [] m
missing_at k t ts m later true is rest = refused_after k t ts m (later rest)
missing_at k t ts m later false is rest =
    subst (λ (x : Misfit). IsRefusedAt k (t ∷ ts) [] x) (same_Some (Missing k t) m rest) (0, omega arith, refl, omega arith, is)

unfit_at : (k : ℕ) (t : WordType) (ts : List WordType) (w : List ℕ) (ws : List (List ℕ)) (m : Misfit) → (first_misfit (k + 1) ts ws ≡ Some m → IsRefusedAt (k + 1) ts ws m)
    → (b : Bool) → fits t w ≡ b → or_misfit (cond b None (Some (Unfit k t))) (first_misfit (k + 1) ts ws) ≡ Some m → IsRefusedAt k (t ∷ ts) (w ∷ ws) m
unfit_at k t ts w ws m later true is rest = refused_later k t ts w ws m (later rest)
unfit_at k t ts w ws m later false is rest =
    subst (λ (x : Misfit). IsRefusedAt k (t ∷ ts) (w ∷ ws) x) (same_Some (Unfit k t) m rest) (0, omega arith, refl, omega arith, is)

refused : (k : ℕ) (ts : List WordType) (ws : List (List ℕ)) (m : Misfit) → first_misfit k ts ws ≡ Some m → IsRefusedAt k ts ws m
refused k [] [] m e = absurd cc
refused k [] (w ∷ ws) m e = subst (λ (x : Misfit). IsRefusedAt k [] (w ∷ ws) x) (same_Some (Extra k) m e) (omega arith, omega arith)
refused k (t ∷ ts) [] m e = missing_at k t ts m (refused (k + 1) ts [] m) (may_lack t) refl e
refused k (t ∷ ts) (w ∷ ws) m e = unfit_at k t ts w ws m (refused (k + 1) ts ws m) (fits t w) refl e

pub told_is_refused : ToldIsRefused
told_is_refused k ws m e = refused 2 (types_of k) ws m e

-- ---- its number

both_numbered : (o p : Option Misfit) → HasNumber o → HasNumber p → HasNumber (or_misfit o p)
both_numbered None p h k = k
both_numbered (Some m) p h k = h

tested : (b : Bool) (m : Misfit) → HasNumber (Some m) → HasNumber (cond b None (Some m))
tested true m h = tt
tested false m h = h

pub numbered : (k : ℕ) (ts : List WordType) (ws : List (List ℕ)) → 0 < k → HasNumber (first_misfit k ts ws)
numbered k [] [] lt = tt
numbered k [] (w ∷ ws) lt = lt
numbered k (t ∷ ts) [] lt = both_numbered (misfit_at k t []) (first_misfit (k + 1) ts []) (tested (may_lack t) (Missing k t) lt) (numbered (k + 1) ts [] (omega arith))
numbered k (t ∷ ts) (w ∷ ws) lt = both_numbered (misfit_at k t (w ∷ ws)) (first_misfit (k + 1) ts ws) (tested (fits t w) (Unfit k t) lt) (numbered (k + 1) ts ws (omega arith))
