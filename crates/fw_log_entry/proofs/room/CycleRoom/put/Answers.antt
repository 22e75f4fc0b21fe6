use Rattle.std.proofs.Common.{◌≡◌, ℕ, ◌/◌, List, ◌++◌, length, append-nil, ap, sym, ◌∙◌}
use Rattle.fw_cip.specs.Iso.{head_bytes, spelling, block_bytes}
use Rattle.fw_log_entry.specs.Log.{entry_head}
use Rattle.fw_log_entry.specs.declared.version.Version.TheVariants.{Two}
use Rattle.fw_log_entry.proofs.WriteLaws.{entry_after}
use Rattle.fw_log_entry.proofs.room.CycleRoom.put.Goals as goal

pub returns-in-Some-clause-bytes : goal.returns-in-Some-clause-bytes
returns-in-Some-clause-bytes c =
    let p = c.args.p.now in
    let head = entry_head Two c.args.epoch 3 (length (spelling p) / 4) c.args.cycle in
    let head_is : c.long_head.result ≡ head = c.long_head.ensures ∙ ap (λ (n : ℕ). entry_head Two c.args.epoch 3 (n / 4) c.args.cycle) c.iso_length.ensures in
    let prefix : c.joined.result ≡ head ++ head_bytes p =
    c.joined.ensures ∙ (ap (λ (h : List ℕ). h ++ c.heads_of.result) head_is ∙ ap (λ (h : List ℕ). head ++ h) c.heads_of.ensures) in
    let block : c.as_slice.result.now ≡ block_bytes p.block = c.as_slice.ensures.same ∙ sym (ap block_bytes c.in-Some.is) in
    entry_after c.args.self.now head (head_bytes p) c.joined.result c.extend.new.self (block_bytes p.block) c.extend-in-Some.new.self
    prefix c.extend.ensures (c.extend-in-Some.ensures ∙ ap (λ (t : List ℕ). c.extend.new.self ++ t) block)

pub returns-in_default-clause-bytes : goal.returns-in_default-clause-bytes
returns-in_default-clause-bytes c =
    let p = c.args.p.now in
    let head = entry_head Two c.args.epoch 3 (length (spelling p) / 4) c.args.cycle in
    let head_is : c.long_head.result ≡ head = c.long_head.ensures ∙ ap (λ (n : ℕ). entry_head Two c.args.epoch 3 (n / 4) c.args.cycle) c.iso_length.ensures in
    let prefix : c.joined.result ≡ head ++ head_bytes p =
    c.joined.ensures ∙ (ap (λ (h : List ℕ). h ++ c.heads_of.result) head_is ∙ ap (λ (h : List ℕ). head ++ h) c.heads_of.ensures) in
    entry_after c.args.self.now head (head_bytes p) c.joined.result c.extend.new.self (block_bytes p.block) c.extend.new.self
    prefix c.extend.ensures (sym (append-nil c.extend.new.self) ∙ ap (λ (t : List ℕ). c.extend.new.self ++ t) (sym (ap block_bytes c.in_default.is)))
