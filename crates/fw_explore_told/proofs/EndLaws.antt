-- From some device on nothing is told of any.
use Rattle.std.proofs.Common.{ℕ, zero, suc, ◌≡◌, ◌+◌, ◌-◌, ◌<◌, ◌≤◌, ◌++◌, ◌∷◌, [], List, Bool, true, false, cond, length, take, get_or, refl, ap, sym, subst, ◌∙◌, arith, append-nil, append_assoc}
use Rattle.std.specs.Prelude.{Ok, Err, OnOk}
use Rattle.std.specs.declared.result.Result.{Result}
use Rattle.std.specs.List.{All}
use Rattle.std.proofs.lemmas.List.{take_more}
use Rattle.std.proofs.lemmas.List.Elements.{All-append, All-cons}
use Rattle.fw_log_entry.specs.declared.codes.TheConstants.{NO_DEVICE}
use Rattle.fw_log_entry.specs.declared.entry.Entry.{Entry}
use Rattle.fw_explore_told.specs.declared.past.ToldEntry.{ToldEntry}
use Rattle.fw_explore_told.specs.Telling.{is_of_controller, is_of_candidate, is_shown}
use Rattle.fw_explore_told.specs.Sayings.{IsNotOf, entry_of, said_all, said_by, said_of}
use Rattle.fw_explore_told.proofs.SayingLaws.{next_said, none_told, said_append}

-- it is told of neither, whichever of the two it is of
pub either_not : (b x : Bool) → x ≡ false → (cond b false x ≡ false) × (cond b x false ≡ false)
either_not true x e = (refl, e)
either_not false x e = (e, refl)

-- what none passes has no lines
none_by : (test : Entry → Bool) (said : List ToldEntry) → All (λ t. test (entry_of t) ≡ false) said → said_by test said ≡ []
none_by test [] h = refl
none_by test (t ∷ ts) h =
    said_append test (t ∷ []) ts ∙ (λ i. none_told test t (h 0 t (omega arith)) i ++ none_by test ts (λ k d low. h (suc k) d (omega (arith, low))) i)

-- from there on
abbrev pub NoneFrom : ℕ → List ToldEntry → Type 0
NoneFrom end said = (d : ℕ) → end ≤ d → d < 63 → All (IsNotOf d) said

stays : (said : List ToldEntry) (end n : ℕ) → end + n ≤ 63 → NoneFrom end said → said_of (end + n) said ≡ said_of end said
stays said end zero most none = ap (λ d. said_of d said) (omega arith)
stays said end (suc n) most none =
    let d : ℕ = end + n in
    let here : All (IsNotOf d) said = none d (omega arith) (omega (arith, most)) in
    let own : said_by (is_of_controller d) said ≡ [] = none_by (is_of_controller d) said (λ k t low. (here k t low).0) in
    let bids : said_by (is_of_candidate d) said ≡ [] = none_by (is_of_candidate d) said (λ k t low. (here k t low).1) in
    let next : end + suc n ≡ d + 1 = omega arith in
    ap (λ k. said_of k said) next ∙ next_said said d ∙ (λ i. said_of d said ++ own i ++ bids i) ∙ append-nil (said_of d said ++ []) ∙ append-nil (said_of d said)
    ∙ stays said end n (omega (arith, most)) none

-- so what is told of those before is all
pub all_said : (said : List ToldEntry) (end : ℕ) → end ≤ 63 → NoneFrom end said → said_of end said ≡ said_of 63 said
all_said said end most none =
    let whole : end + (63 - end) ≡ 63 = omega (arith, most) in
    sym (stays said end (63 - end) (omega (arith, most)) none) ∙ ap (λ d. said_of d said) whole

-- one more was looked at
pub none_more : (said : List ToldEntry) (i d : ℕ) (e : ToldEntry) → i < length said → All (IsNotOf d) (take i said) → IsNotOf d (get_or said i e) → All (IsNotOf d) (take (i + 1) said)
none_more said i d e low prefix here =
    let t : ToldEntry = get_or said i e in
    let one : All (IsNotOf d) (t ∷ []) = All-cons (IsNotOf d) t [] here (λ k x less. absurd (omega (arith, less))) in
    subst (All (IsNotOf d)) (sym (take_more said i e low)) (All-append (IsNotOf d) (take i said) (t ∷ []) prefix one)

-- then those without a device, and what was shown
pub all_told : {T E : Type 0} (r : Result T E) (said : List ToldEntry) (end : ℕ) (out a b now : List ℕ) → end ≤ 63 → NoneFrom end said → a ≡ out ++ said_of end said
    → b ≡ a ++ said_by (is_of_controller NO_DEVICE) said → OnOk r (now ≡ b ++ said_by is_shown said) → OnOk r (now ≡ out ++ said_all said)
all_told (Err u) said end out a b now most none e f g = tt
all_told (Ok u) said end out a b now most none e f g =
    let n : List ℕ = said_by (is_of_controller NO_DEVICE) said in
    let s : List ℕ = said_by is_shown said in
    let d : List ℕ = said_of 63 said in
    let first : a ≡ out ++ d = e ∙ ap (λ z. out ++ z) (all_said said end most none) in
    g ∙ ap (λ z. z ++ s) (f ∙ ap (λ z. z ++ n) first ∙ append_assoc out d n) ∙ append_assoc out (d ++ n) s
