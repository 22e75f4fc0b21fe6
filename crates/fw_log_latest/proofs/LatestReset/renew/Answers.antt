use Rattle.std.proofs.Common.{rules, arith, ◌≡◌, ◌∙◌, sym, subst, drop}
use Rattle.std.specs.Prelude.{IsTrue}
use Rattle.fw_log_entry.specs.declared.entry.ResetEntry.{ResetEntry}
use Rattle.fw_log_latest.specs.Latest.{TellsBus}
use Rattle.fw_log_latest.proofs.LatestLaws.{long, renewed, still}
use Rattle.fw_log_latest.proofs.LatestReset.renew.Goals as goal

pub invariant_of-self : goal.invariant_of-self
invariant_of-self c = λ k.
    let bytes = c.args.bytes.now in
    let P : ResetEntry → Type 0 = λ e. TellsBus e c.self.inside.later.items in
    let x = subst P (sym c.deref_mut.ensures.value) (c.self.invariant k) in
    let same : c.self.inside.later.items ≡ drop 4 bytes = sym c.as_slice.ensures.value ∙ c.ends_body.ensures (search rules) in
    still c.deref_mut.result.now c.self.inside.later.items c.requires.0 bytes c.quadlet_at.result.0 x c.requires.1 c.requires.2 same c.quadlet_at.ensures.value

pub returns : goal.returns
returns c = λ t r f e.
    let bytes = c.args.bytes.now in
    let P : ResetEntry → Type 0 = λ e. TellsBus e c.self.inside.later.items in
    let k : IsTrue c.self.inside.is_kept = search rules in
    let x = subst P (sym c.deref_mut.ensures.value) (c.self.invariant k) in
    let same : c.self.inside.later.items ≡ drop 4 bytes = sym c.as_slice.ensures.value ∙ c.ends_body.ensures (search rules) in
    renewed c.deref_mut.result.now r bytes c.self.inside.later.items c.quadlet_at.result.0 x f e same c.quadlet_at.ensures.value

pub ends_body-requires : goal.ends_body-requires
ends_body-requires c = omega (arith, long c.requires.0 c.args.bytes.now c.requires.2)
