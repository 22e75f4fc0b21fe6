use Rattle.std.proofs.Common.{ℕ, List, ◌++◌, ap, sym, ◌∙◌, codes, decimal}
use Rattle.std.proofs.lemmas.Result.{on_ok_weaker}
use Rattle.fw_check.specs.Slips.{byte_text, slip_text}
use Rattle.fw_check.specs.declared.slip.Slip.{Slip}
use Rattle.fw_check.proofs.Joins.{moved, then, three_after}
use Rattle.fw_check.proofs.slip.put_slip.Goals as goal

pub returns-in_ok-put_byte-in-OtherByte : goal.returns-in_ok-put_byte-in-OtherByte
returns-in_ok-put_byte-in-OtherByte c =
    let old : List ℕ = c.args.text.now.items in
    let column : List ℕ = decimal c.in-OtherByte.column in
    let byte : List ℕ = byte_text c.in-OtherByte.byte in
    on_ok_weaker c.put_numbered-in-OtherByte.result
    (λ piece.
    then old c.put_byte.new.text.items _ (codes "the byte " ++ byte) ((codes " at column " ++ column) ++ codes "; words are of printable ASCII")
    (then old c.put_word-in-OtherByte.new.text.items _ (codes "the byte ") byte c.in_ok-put_word-in-OtherByte.ensures c.in_ok-put_byte-in-OtherByte.ensures) piece
    ∙ ap (λ (l : List ℕ). old ++ l) (three_after (codes "the byte " ++ byte) (codes " at column ") column (codes "; words are of printable ASCII"))
    ∙ ap (λ (s : Slip). old ++ slip_text s) (sym c.in-OtherByte.is))
    c.put_numbered-in-OtherByte.ensures

pub returns-in-FollowingEnd : goal.returns-in-FollowingEnd
returns-in-FollowingEnd c =
    let old : List ℕ = c.args.text.now.items in
    on_ok_weaker c.put_numbered-in-FollowingEnd.result
    (λ piece.
    moved (λ (n : ℕ). codes "it stands behind `end` of line " ++ decimal n ++ codes "; only empty lines and comments may follow") old _ _ _ c.from.ensures piece
    ∙ ap (λ (s : Slip). old ++ slip_text s) (sym c.in-FollowingEnd.is))
    c.put_numbered-in-FollowingEnd.ensures
