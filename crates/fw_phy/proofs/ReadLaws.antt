-- What eight bytes are, as a packet or as a fault.
use Rattle.std.proofs.Common.{◌≡◌, ℕ, ◌-◌, ◌^◌, ◌≤◌, ◌<◌, Result, Ok, Err, IfOk, None, take, take-add, ◌++◌, arith, ap, sym, ◌∙◌, length, drop, List}
use Rattle.std.proofs.lemmas.Bool.Decides.{nat_tests}
use Rattle.std.specs.Option.{option_map}
use Rattle.std.specs.Result.{result_err}
use Rattle.fw_words.specs.Quadlet.{quadlet_at}
use Rattle.fw_phy.specs.declared.PhyFault.{PhyFault}
use Rattle.fw_phy.specs.declared.PhyFault.TheVariants.{Reserved}
use Rattle.fw_phy.specs.declared.packet.PhyPacket.{PhyPacket}
use Rattle.fw_phy.specs.Phy.{reserved_bit, Fits, quadlet_of, twice, spelling, phy_fault}
use Rattle.fw_phy.proofs.TagLaws.{spelled_none}
use Rattle.fw_phy.proofs.SameLaws.{same_packet, same_twice, below}

pub eight : (b f s : List ℕ) → f ≡ take 4 b → s ≡ take 4 (drop 4 b) → take 8 b ≡ f ++ s
eight b f s e g = take-add 4 4 b ∙ ap (λ t. t ++ take 4 (drop 4 b)) (sym e) ∙ ap (λ t. f ++ t) (sym g)

pub fault_of : (b : List ℕ) (q r : ℕ) → 8 ≤ length b → q ≡ quadlet_at b 0 → r ≡ quadlet_at b 4 → r ≡ 2 ^ 32 - 1 - q → phy_fault b ≡ option_map Reserved (reserved_bit q)
fault_of b q r enough first second inverse = grind (arith, nat_tests)

pub found_of : (r : Result PhyPacket PhyFault) (q : ℕ) (bytes : List ℕ) → bytes ≡ twice q → IfOk r (λ p. Fits p × (quadlet_of p ≡ q)) → IfOk r (λ p. Fits p × (bytes ≡ spelling p))
found_of (Ok p) q bytes e h = (h.0, e ∙ ap twice (sym h.1))
found_of (Err f) q bytes e h = tt

pub only_of : (r : Result PhyPacket PhyFault) (q : ℕ) (bytes : List ℕ) → q < 2 ^ 32 → bytes ≡ twice q → result_err r ≡ option_map Reserved (reserved_bit q) → IfOk r (λ p. Fits p × (quadlet_of p ≡ q))
    → (p : PhyPacket) → Fits p → bytes ≡ spelling p → r ≡ Ok p
only_of (Ok p') q bytes small e fault found p fits spelled =
    let same : q ≡ quadlet_of p = same_twice q (quadlet_of p) small (below p fits) (sym e ∙ spelled) in
    ap Ok (same_packet p' p found.0 fits (found.1 ∙ same))
only_of (Err f) q bytes small e fault found p fits spelled =
    let same : q ≡ quadlet_of p = same_twice q (quadlet_of p) small (below p fits) (sym e ∙ spelled) in
    let none : option_map Reserved (reserved_bit q) ≡ None = ap (λ n. option_map Reserved (reserved_bit n)) same ∙ ap (option_map Reserved) (spelled_none p fits) in
    cc (fault ∙ none)
