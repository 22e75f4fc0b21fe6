-- What nodes keep after a bus reset: a device that was a node keeps its plugs' settings, a new one has the words as declared.
use Rattle.fw_bus_state.proofs.Common.{◌≡◌, ℕ, ◌<◌, ◌≤◌, List, Bool, true, false, cond, Option, Some, None, refl, ap, sym, ◌∙◌, arith, nat_tests, at_plug, DeviceKind, PlugAt, output_plugs_of}
use Rattle.fw_bus_state.proofs.Common.{input_plugs_of, ResetEntry, NodeRow, disconnected, Account, OutputPlug, InputPlug, word_of, kind_at, node_number, Shows, State, number_in, IsGood, IsLatest}
use Rattle.std.proofs.Common.{slice_get}
use Rattle.std.specs.List.{list_any}
use Rattle.std.proofs.lemmas.List.Folds.{Any-from_list_any}
use Rattle.std.proofs.lemmas.Option.{slice_get-get_or}
use Rattle.fw_plug.specs.Words.{OutFields, out_word, InFields, in_word, FitsRegister, flag}
use Rattle.fw_plug.specs.Plugs.{first_out_word, first_in_word}
use Rattle.fw_model_account.specs.Events.{after_reset}
use Rattle.fw_model_account.specs.Network.{is_output, is_input, is_output_of, is_input_of, declared}
use Rattle.fw_model_account.specs.Words.{fields_at, input_fields_at}
use Rattle.fw_model_account.proofs.Network.{any_at}
use Rattle.fw_model_account.proofs.Resets.{reset_output, reset_input}
use Rattle.fw_tree.specs.Topology.{Topology}
use Rattle.fw_devices.specs.Entries.{row_of}

-- ---- words whose connections are cleared

pub out_cleared : (f : OutFields) → f.counter < 64 → FitsRegister f.settings → disconnected (out_word f) ≡ out_word (record f { broadcast = false; counter = 0 })
out_cleared f most r = let low : flag f.broadcast ≤ 1 = grind arith in omega arith

pub in_cleared : (f : InFields) → f.counter < 64 → f.channel < 64 → disconnected (in_word f) ≡ in_word (record f { broadcast = false; counter = 0 })
in_cleared f most small = let low : flag f.broadcast ≤ 1 = grind arith in omega arith

-- the fields at first
abbrev pub first_fields : ℕ → OutFields
first_fields rate = record { broadcast = false; counter = 0; settings = record { channel = 63; rate = rate; overhead = 0 } }

abbrev pub first_input_fields : InFields
first_input_fields = record { broadcast = false; counter = 0; channel = 63 }

first_out_is : (rate : ℕ) → first_out_word rate ≡ out_word (first_fields rate)
first_out_is rate = omega arith

pub first_out_cleared : (rate : ℕ) → rate < 4 → disconnected (first_out_word rate) ≡ out_word (first_fields rate)
first_out_cleared rate low = ap disconnected (first_out_is rate) ∙ out_cleared (first_fields rate) (omega arith) (record { channel = omega arith; rate = low; overhead = omega arith })

pub first_in_cleared : disconnected first_in_word ≡ in_word first_input_fields
first_in_cleared = refl

-- ---- which plugs were there

-- a plug of a device on the bus was there
pub output_there : (s : State) (d n k : ℕ) → IsGood s → number_in s.account.latest d ≡ Some n → k < output_plugs_of (kind_at s.declared.kinds d) → is_output s.account.latest (at_plug d k) ≡ true
output_there s d n k g at lt = go s.account.latest g.latest at
  where
    go : (o : Option ResetEntry) → IsLatest o s.declared s.account → number_in o d ≡ Some n → is_output o (at_plug d k) ≡ true
    go None h at = absurd (let z : ⊥ = cc in z)
    go (Some e) h at = any_at (is_output_of (at_plug d k)) e.nodes n (row_of d (kind_at s.declared.kinds d)) (h.1.numbers d n at) (grind (arith, nat_tests))

pub input_there : (s : State) (d n k : ℕ) → IsGood s → number_in s.account.latest d ≡ Some n → k < input_plugs_of (kind_at s.declared.kinds d) → is_input s.account.latest (at_plug d k) ≡ true
input_there s d n k g at lt = go s.account.latest g.latest at
  where
    go : (o : Option ResetEntry) → IsLatest o s.declared s.account → number_in o d ≡ Some n → is_input o (at_plug d k) ≡ true
    go None h at = absurd (let z : ⊥ = cc in z)
    go (Some e) h at = any_at (is_input_of (at_plug d k)) e.nodes n (row_of d (kind_at s.declared.kinds d)) (h.1.numbers d n at) (grind (arith, nat_tests))

no_row : NodeRow
no_row = record { device = 0; outs = 0; ins = 0; kind = 0 }

-- no row is of a device that is off
none_of : (t : Topology) (kinds : List DeviceKind) (e : ResetEntry) (d : ℕ) (test : NodeRow → Bool) → Shows t kinds e → node_number e.nodes d ≡ None
    → ((row : NodeRow) → test row ≡ true → row.device ≡ d) → list_any test e.nodes ≡ false
none_of t kinds e d test h off of = go (list_any test e.nodes) refl
  where
    go : (b : Bool) → list_any test e.nodes ≡ b → list_any test e.nodes ≡ false
    go false is = is
    go true is =
        let w = Any-from_list_any test e.nodes is in
        let at : slice_get e.nodes w.0 ≡ Some w.1 = slice_get-get_or e.nodes w.0 w.1 w.2 ∙ ap Some w.3 in
        let number = (h.rows w.0 w.1 at).1 in
        let same : node_number e.nodes w.1.device ≡ node_number e.nodes d = ap (node_number e.nodes) (of w.1 w.4) in
        absurd (let z : ⊥ = cc in z)

pub output_not_there : (s : State) (d k : ℕ) → IsGood s → number_in s.account.latest d ≡ None → is_output s.account.latest (at_plug d k) ≡ false
output_not_there s d k g off = go s.account.latest g.latest off
  where
    go : (o : Option ResetEntry) → IsLatest o s.declared s.account → number_in o d ≡ None → is_output o (at_plug d k) ≡ false
    go None h off = refl
    go (Some e) h off = none_of s.declared.topology s.declared.kinds e d (is_output_of (at_plug d k)) h.1 off (λ row t. grind (arith, nat_tests))

pub input_not_there : (s : State) (d k : ℕ) → IsGood s → number_in s.account.latest d ≡ None → is_input s.account.latest (at_plug d k) ≡ false
input_not_there s d k g off = go s.account.latest g.latest off
  where
    go : (o : Option ResetEntry) → IsLatest o s.declared s.account → number_in o d ≡ None → is_input o (at_plug d k) ≡ false
    go None h off = refl
    go (Some e) h off = none_of s.declared.topology s.declared.kinds e d (is_input_of (at_plug d k)) h.1 off (λ row t. grind (arith, nat_tests))

-- ---- the words after a reset

-- the word of an output plug that was there is the one that it had, with its connections cleared
pub output_kept : (l : Account) (e : ResetEntry) (p : PlugAt) → (fields_at l p).counter ≤ 63 → FitsRegister (l.settings p) → is_output l.latest p ≡ true
    → disconnected (word_of l (OutputPlug p)) ≡ word_of (after_reset e l) (OutputPlug p)
output_kept l e p most fits was =
    out_cleared (fields_at l p) (omega arith) fits ∙ sym (ap (λ b. out_word (record { broadcast = false; counter = 0; settings = cond b (l.settings p) (declared e p) })) was)
    ∙ sym (ap out_word (reset_output e l p))

pub input_kept : (l : Account) (e : ResetEntry) (p : PlugAt) → (input_fields_at l p).counter ≤ 63 → l.input_channel p < 64 → is_input l.latest p ≡ true
    → disconnected (word_of l (InputPlug p)) ≡ word_of (after_reset e l) (InputPlug p)
input_kept l e p most fits was =
    in_cleared (input_fields_at l p) (omega arith) fits ∙ sym (ap (λ b. in_word (record { broadcast = false; counter = 0; channel = cond b (l.input_channel p) 63 })) was)
    ∙ sym (ap in_word (reset_input e l p))

-- that of a new one is as it was declared
pub output_declared : (l : Account) (e : ResetEntry) (p : PlugAt) → is_output l.latest p ≡ false → word_of (after_reset e l) (OutputPlug p) ≡ out_word (first_fields (declared e p).rate)
output_declared l e p was = ap out_word (reset_output e l p) ∙ ap (λ b. out_word (record { broadcast = false; counter = 0; settings = cond b (l.settings p) (declared e p) })) was

pub input_declared : (l : Account) (e : ResetEntry) (p : PlugAt) → is_input l.latest p ≡ false → word_of (after_reset e l) (InputPlug p) ≡ in_word first_input_fields
input_declared l e p was = ap in_word (reset_input e l p) ∙ ap (λ b. in_word (record { broadcast = false; counter = 0; channel = cond b (l.input_channel p) 63 })) was
