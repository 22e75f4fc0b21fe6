-- What is said of the response to a lock, case by case of what the account asks of it.
use Rattle.std.proofs.Common.{◌≡◌, ℕ, ◌==◌, ◌&&◌, Bool, true, false, List, [], ◌++◌, length, codes, if◌then◌else◌, Option, Some, None, refl, ap, ◌∙◌}
use Rattle.std.proofs.lemmas.List.{append-nil}
use Rattle.fw_words.specs.Quadlet.{quadlet_at}
use Rattle.fw_words.specs.Swaps.{quadlet_swap}
use Rattle.fw_words.specs.declared.swap.Swap.{Swap as Words}
use Rattle.fw_words.specs.declared.swap.TheConstants.{COMPARE_SWAP}
use Rattle.fw_text.specs.Texts.{quadlet_text, quadlets_text}
use Rattle.fw_log_registers.specs.declared.place.RegisterPlace.{RegisterPlace}
use Rattle.fw_log_registers.specs.declared.told.RegisterValue.TheVariants.{Word, Swap}
use Rattle.fw_log_registers.specs.Places.{place_of}
use Rattle.fw_log_registers.specs.Words.{told_text}
use Rattle.fw_log_requests.specs.Requests.{asked_by}
use Rattle.fw_log_explain.specs.Lines.{rcode_text, function_text, at_text, asked_text, unasked_text, complete_text, made_text, swapped_text, found_text, old_text, locked_text}
use Rattle.fw_model_account.specs.Packets.{is_swapped}
use Rattle.fw_log_words.specs.Swapped.{kept_text, brought, SwapsAreTold}

abbrev swap_if : Bool → ℕ → ℕ → Option Words
swap_if b x y = if b then Some (record { argument = x; new = y }) else None

-- what `found_text` makes of the answers: a, that the function is compare_swap, and d, that the old value has four bytes
abbrev found_if : Bool → Bool → RegisterPlace → ℕ → List ℕ → Option Words → List ℕ
found_if a d place o old None = quadlets_text old
found_if a d place o old (Some s) =
    if a && d then quadlet_text o ++ (if o == s.argument then codes ", swap made" ++ told_text (Swap s.argument s.new) place else codes ", no swap" ++ told_text (Word o) place)
    else quadlets_text old

abbrev brought_if : Bool → RegisterPlace → ℕ → ℕ → ℕ → List ℕ → List ℕ
brought_if true place x y o kept = quadlet_text o ++ (codes ", swap made" ++ told_text (Swap x y) place)
brought_if false place x y o kept = kept

last : (e : Bool) (place : RegisterPlace) (x y o : ℕ)
    → quadlet_text o ++ (if e then codes ", swap made" ++ told_text (Swap x y) place else codes ", no swap" ++ told_text (Word o) place)
    ≡ brought_if e place x y o (quadlet_text o ++ (codes ", no swap" ++ told_text (Word o) place))
last true place x y o = refl
last false place x y o = refl

-- besides, b: that eight bytes were given, and c: that the response is complete
cases : (a b c d : Bool) (place : RegisterPlace) (x y o : ℕ) (old : List ℕ)
    → (if c then found_if a d place o old (swap_if (a && b) x y) else [])
    ≡ brought_if (a && b && c && d && (o == x)) place x y o
    (if c then (if a && b && d then quadlet_text o ++ (codes ", no swap" ++ told_text (Word o) place) else quadlets_text old) else [])
cases true true true true place x y o old = last (o == x) place x y o
cases true true true false place x y o old = refl
cases true true false d place x y o old = refl
cases true false true d place x y o old = refl
cases true false false d place x y o old = refl
cases false b true d place x y o old = refl
cases false b false d place x y o old = refl

found_is : (place : RegisterPlace) (q : Option Words) (function : ℕ) (old : List ℕ)
    → found_text place q function old ≡ found_if (function == COMPARE_SWAP) (length old == 4) place (quadlet_at old 0) old q
unfolding found_text swapped_text made_text
found_is place None function old = refl
found_is place (Some s) function old = refl

brought_is : (made : Bool) (place : RegisterPlace) (function : ℕ) (given : List ℕ) (rcode : ℕ) (old : List ℕ)
    → brought_if made place (quadlet_at given 0) (quadlet_at given 4) (quadlet_at old 0) (kept_text place function given rcode old) ≡ brought made place function given rcode old
brought_is true place function given rcode old = refl
brought_is false place function given rcode old = refl

pub swaps_are_told : SwapsAreTold
unfolding asked_by locked_text old_text asked_text unasked_text
swaps_are_told h address function rcode given old =
    let place : RegisterPlace = place_of address in
    let prefix : List ℕ = rcode_text rcode ++ function_text function ++ at_text place in
    let found = found_is place (quadlet_swap function given) function old in
    let told = cases (function == COMPARE_SWAP) (length given == 8) (rcode == 0) (length old == 4) place (quadlet_at given 0) (quadlet_at given 4) (quadlet_at old 0) old in
    append-nil (prefix ++ complete_text rcode (found_text place (quadlet_swap function given) function old))
    ∙ ap (λ (t : List ℕ). prefix ++ complete_text rcode t) found ∙ ap (λ (t : List ℕ). prefix ++ t) told
    ∙ ap (λ (t : List ℕ). prefix ++ t) (brought_is (is_swapped function given rcode old) place function given rcode old)
