-- What a vendor makes of bytes, one by one.
use Rattle.std.proofs.Common.{◌≡◌, ℕ, List, [], ◌∷◌, ◌++◌, sym, ◌∙◌, ap, subst, append_assoc}
use Rattle.fw_tape.specs.Desks.{VendorRelation}
use Rattle.fw_avc.specs.Replies.{Makes, company}
use Rattle.fw_avc.specs.Vendor.{AddsMade}

makes_more : (V : VendorRelation) (bs cs : List ℕ) (b c : ℕ) → Makes V bs cs → V company b c → Makes V (bs ++ b ∷ []) (cs ++ c ∷ [])
makes_more V [] [] b c m one = (one, tt)
makes_more V [] (y ∷ ys) b c m one = absurd m
makes_more V (x ∷ xs) [] b c m one = absurd m
makes_more V (x ∷ xs) (y ∷ ys) b c m one = (m.0, makes_more V xs ys b c m.1 one)

pub adds_one : (V : VendorRelation) (asked more before now after : List ℕ) (b c : ℕ)
    → more ≡ asked ++ b ∷ [] → after ≡ now ++ c ∷ [] → AddsMade V asked before now → V company b c → AddsMade V more before after
adds_one V asked more before now after b c e g h one =
    let P : List ℕ → Type 0 = λ bs. Makes V bs (h.made ++ c ∷ []) in
    record {
      made = h.made ++ c ∷ [];
      makes = subst P (sym e) (makes_more V asked h.made b c h.makes one);
      added = g ∙ ap (λ l. l ++ c ∷ []) h.added ∙ append_assoc before h.made (c ∷ []);
    }
