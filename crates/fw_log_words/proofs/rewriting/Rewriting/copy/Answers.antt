use Rattle.std.proofs.Common.{◌≡◌, ℕ, ◌/◌, List, ◌++◌, OnOk, length, ap, sym, subst, ◌∙◌}
use Rattle.fw_log_entry.specs.Log.{entry_head}
use Rattle.fw_log_entry.specs.declared.version.Version.{Version}
use Rattle.fw_log_entry.specs.declared.version.Version.TheVariants.{Two}
use Rattle.fw_log_words.specs.Texts.{Rewritten}
use Rattle.fw_log_words.proofs.rewriting.Rewriting.copy.Goals as goal

pub returns-in-Two-clause-bytes : goal.returns-in-Two-clause-bytes
returns-in-Two-clause-bytes c =
    let old : Rewritten = c.args.self.now in
    let quadlets : ℕ = length c.args.bytes.now / 4 in
    let head = c.long_head.ensures ∙ ap (λ (n : ℕ). entry_head Two n c.args.kind quadlets c.args.cycle) (ap (λ (r : Rewritten). r.epoch) c.self.view_is)
    ∙ ap (λ (v : Version). entry_head v old.epoch c.args.kind quadlets c.args.cycle) (sym c.in-Two.is ∙ ap (λ (r : Rewritten). r.version) c.self.view_is) in
    let P : List ℕ → List ℕ → Type 0 = λ b h. OnOk c.put-in-Two.result (c.put-in-Two.new.self ≡ b ++ (h ++ c.args.bytes.now)) in
    subst (λ h. P old.bytes h) head (subst (λ b. P b c.long_head.result) (ap (λ (r : Rewritten). r.bytes) c.self.view_is) c.put-in-Two.ensures)
