use Rattle.fw_map.proofs.Common.{◌≡◌, ◌++◌, List, ℕ, string_bytes, codes, ap, sym, ◌∙◌, append_assoc}
use Rattle.std.proofs.Common.{decimal}
use Rattle.std.proofs.lemmas.Result.{on_ok_weaker}
use Rattle.fw_map.specs.Graphs.{quote}
use Rattle.fw_map.proofs.graph.put_number.Goals as goal

pub returns : goal.returns
returns c =
    let old = string_bytes c.args.text.now in
    let prefix : List ℕ = codes "  n" ++ decimal c.args.node in
    let middle : List ℕ = codes " [label=" ++ quote ++ codes "node " in
    let number : List ℕ = decimal c.args.node in
    on_ok_weaker c.write-2.result (λ e.
    let last : string_bytes c.write-2.new.self ≡ string_bytes c.write.new.self ++ (middle ++ number) = e in
    last ∙ (ap (λ (x : List ℕ). x ++ (middle ++ number)) c.in_ok-write.ensures.bytes
    ∙ (append_assoc old prefix (middle ++ number) ∙ ap (λ (x : List ℕ). old ++ x) (sym (append_assoc prefix middle number))))) c.write-2.ensures.bytes
