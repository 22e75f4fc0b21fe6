-- The plugs of the table.
use Rattle.std.proofs.Common.{◌≡◌, ◌↔◌, ◌<◌, ◌⊎◌, inl, inr, ◌||◌, Bool, true, false, [], ◌∙◌, Option, Some, None, IsTrue, IsFalse, refl, sym, arith}
use Rattle.std.proofs.lemmas.Bool.{false≢true}
use Rattle.std.proofs.lemmas.Bool.Decides.{nat_tests}
use Rattle.fw_terms.specs.declared.plug.PlugAt.{PlugAt}
use Rattle.fw_log_entry.specs.declared.entry.ResetEntry.{ResetEntry}
use Rattle.fw_log_entry.specs.Network.{HasRange}
use Rattle.fw_model_account.specs.Account.{Account, has_connection}
use Rattle.fw_model_account.specs.Network.{is_input, is_input_of}
use Rattle.fw_model_account.specs.Sound.{IsSound}
use Rattle.fw_model_account.proofs.Network.{any_place, output_in_range}
use Rattle.fw_holders.proofs.PlugLaws.{plug_line_is}
use Rattle.fw_holders_text.specs.Names.{nodes_of}
use Rattle.fw_holders.specs.Table.{input_line, output_line, plug_line}
use Rattle.fw_holders_laws.proofs.Lines.{some_begin}

some_output : (l : Account) (p : PlugAt) → has_connection (l.outputs p) ≡ true → output_line l p ≡ [] → ⊥
some_output l p t e = some_begin _ _ (plug_line_is (nodes_of l.latest) _ p (l.settings p).channel (l.outputs p) t ∙ e)

pub outputs_with_line : (l : Account) (p : PlugAt) → (output_line l p ≡ []) ↔ IsFalse (has_connection (l.outputs p))
unfolding plug_line
outputs_with_line l p = by (has_connection (l.outputs p)) refl
  where
    by : (b : Bool) → has_connection (l.outputs p) ≡ b → (output_line l p ≡ []) ↔ IsFalse (has_connection (l.outputs p))
    by true t = (λ e. absurd (some_output l p t e), λ f. absurd (false≢true (sym f ∙ t)))
    by false t = (λ e. t, λ f. rw t refl)

some_input : (l : Account) (p : PlugAt) → has_connection (l.inputs p) ≡ true → input_line l p ≡ [] → ⊥
some_input l p t e = some_begin _ _ (plug_line_is (nodes_of l.latest) _ p (l.input_channel p) (l.inputs p) t ∙ e)

pub inputs_with_line : (l : Account) (p : PlugAt) → (input_line l p ≡ []) ↔ IsFalse (has_connection (l.inputs p))
unfolding plug_line
inputs_with_line l p = by (has_connection (l.inputs p)) refl
  where
    by : (b : Bool) → has_connection (l.inputs p) ≡ b → (input_line l p ≡ []) ↔ IsFalse (has_connection (l.inputs p))
    by true t = (λ e. absurd (some_input l p t e), λ f. absurd (false≢true (sym f ∙ t)))
    by false t = (λ e. t, λ f. rw t refl)

input_in_range : (o : Option ResetEntry) (p : PlugAt) → HasRange o → is_input o p ≡ true → (p.device < 63) × (p.plug < 31)
input_in_range None p w t = absurd (false≢true t)
input_in_range (Some r) p w t =
    let a = any_place (is_input_of p) r.nodes t in
    let d = w a.0 a.1 a.2 in
    grind (arith, nat_tests, a.3)

or_left : (a b : Bool) → a ≡ true → (a || b) ≡ true
or_left true b e = refl
or_left false b e = absurd (false≢true e)

pub connected_in_range : (l : Account) (p : PlugAt) → IsSound l → IsTrue (has_connection (l.outputs p)) ⊎ IsTrue (has_connection (l.inputs p)) → (p.device < 63) × (p.plug < 31)
connected_in_range l p s (inl h) = output_in_range l.latest p s.range (s.there p (or_left (has_connection (l.outputs p)) (l.continues p) h))
connected_in_range l p s (inr h) = input_in_range l.latest p s.range (s.inputs_there p h)
