use Rattle.fw_log_json.proofs.Common.{◌≡◌, ◌++◌, OnOk, Some, codes, ℕ, List, arith, sym, subst, on_ok_weaker, Packet, tcode_name, code, one_text}
use Rattle.fw_log_names.specs.Names.{tcode}
use Rattle.fw_log_json_packets.proofs.Joins.{longer_text}
use Rattle.fw_log_json.proofs.packet.put_tcode.Goals as goal

-- a text is what is due of a packet
abbrev IsDue : List ℕ → List ℕ → Packet → Type 0
IsDue before after p = after ≡ before ++ code (codes ",\"tcode\":") (tcode p) (codes ",\"tcode_name\":") (Some (tcode_name p))

pub returns-in-WriteQuadlet-tcode_row : goal.returns-in-WriteQuadlet-tcode_row
returns-in-WriteQuadlet-tcode_row c =
    let P : Packet → Type 0 = λ p. OnOk c.put_word.result (IsDue c.args.text.now.items c.put_word.new.text.items p) in
    subst P (sym c.in-WriteQuadlet-tcode_row.is)
    (on_ok_weaker c.put_word.result (λ e. one_text _ _ (codes ",\"tcode\":") 0 (codes ",\"tcode_name\":") (codes "write_quadlet_request") (omega arith) e) c.put_word.ensures)

pub returns-in-WriteBlock-tcode_row : goal.returns-in-WriteBlock-tcode_row
returns-in-WriteBlock-tcode_row c =
    let P : Packet → Type 0 = λ p. OnOk c.put_word-2.result (IsDue c.args.text.now.items c.put_word-2.new.text.items p) in
    subst P (sym c.in-WriteBlock-tcode_row.is)
    (on_ok_weaker c.put_word-2.result (λ e. one_text _ _ (codes ",\"tcode\":") 1 (codes ",\"tcode_name\":") (codes "write_block_request") (omega arith) e) c.put_word-2.ensures)

pub returns-in-WriteReply-tcode_row : goal.returns-in-WriteReply-tcode_row
returns-in-WriteReply-tcode_row c =
    let P : Packet → Type 0 = λ p. OnOk c.put_word-3.result (IsDue c.args.text.now.items c.put_word-3.new.text.items p) in
    subst P (sym c.in-WriteReply-tcode_row.is)
    (on_ok_weaker c.put_word-3.result (λ e. one_text _ _ (codes ",\"tcode\":") 2 (codes ",\"tcode_name\":") (codes "write_response") (omega arith) e) c.put_word-3.ensures)

pub returns-in-ReadQuadlet-tcode_row : goal.returns-in-ReadQuadlet-tcode_row
returns-in-ReadQuadlet-tcode_row c =
    let P : Packet → Type 0 = λ p. OnOk c.put_word-4.result (IsDue c.args.text.now.items c.put_word-4.new.text.items p) in
    subst P (sym c.in-ReadQuadlet-tcode_row.is)
    (on_ok_weaker c.put_word-4.result (λ e. one_text _ _ (codes ",\"tcode\":") 4 (codes ",\"tcode_name\":") (codes "read_quadlet_request") (omega arith) e) c.put_word-4.ensures)

pub returns-in-ReadBlock-tcode_row : goal.returns-in-ReadBlock-tcode_row
returns-in-ReadBlock-tcode_row c =
    let P : Packet → Type 0 = λ p. OnOk c.put_word-5.result (IsDue c.args.text.now.items c.put_word-5.new.text.items p) in
    subst P (sym c.in-ReadBlock-tcode_row.is)
    (on_ok_weaker c.put_word-5.result (λ e. one_text _ _ (codes ",\"tcode\":") 5 (codes ",\"tcode_name\":") (codes "read_block_request") (omega arith) e) c.put_word-5.ensures)

pub returns-in-ReadQuadletReply-tcode_row : goal.returns-in-ReadQuadletReply-tcode_row
returns-in-ReadQuadletReply-tcode_row c =
    let P : Packet → Type 0 = λ p. OnOk c.put_word-6.result (IsDue c.args.text.now.items c.put_word-6.new.text.items p) in
    subst P (sym c.in-ReadQuadletReply-tcode_row.is)
    (on_ok_weaker c.put_word-6.result (λ e. one_text _ _ (codes ",\"tcode\":") 6 (codes ",\"tcode_name\":") (codes "read_quadlet_response") (omega arith) e) c.put_word-6.ensures)

pub returns-in-ReadBlockReply-tcode_row : goal.returns-in-ReadBlockReply-tcode_row
returns-in-ReadBlockReply-tcode_row c =
    let P : Packet → Type 0 = λ p. OnOk c.put_word-7.result (IsDue c.args.text.now.items c.put_word-7.new.text.items p) in
    subst P (sym c.in-ReadBlockReply-tcode_row.is)
    (on_ok_weaker c.put_word-7.result (λ e. one_text _ _ (codes ",\"tcode\":") 7 (codes ",\"tcode_name\":") (codes "read_block_response") (omega arith) e) c.put_word-7.ensures)

pub returns-in-CycleStart-tcode_row : goal.returns-in-CycleStart-tcode_row
returns-in-CycleStart-tcode_row c =
    let P : Packet → Type 0 = λ p. OnOk c.put_word-8.result (IsDue c.args.text.now.items c.put_word-8.new.text.items p) in
    subst P (sym c.in-CycleStart-tcode_row.is)
    (on_ok_weaker c.put_word-8.result (λ e. one_text _ _ (codes ",\"tcode\":") 8 (codes ",\"tcode_name\":") (codes "cycle_start") (omega arith) e) c.put_word-8.ensures)

pub returns-in-Lock-tcode_row : goal.returns-in-Lock-tcode_row
returns-in-Lock-tcode_row c =
    let P : Packet → Type 0 = λ p. OnOk c.put_word-9.result (IsDue c.args.text.now.items c.put_word-9.new.text.items p) in
    subst P (sym c.in-Lock-tcode_row.is)
    (on_ok_weaker c.put_word-9.result (λ e. one_text _ _ (codes ",\"tcode\":") 9 (codes ",\"tcode_name\":") (codes "lock_request") (omega arith) e) c.put_word-9.ensures)

pub returns-in-LockReply-tcode_row : goal.returns-in-LockReply-tcode_row
returns-in-LockReply-tcode_row c =
    let P : Packet → Type 0 = λ p. OnOk c.put_word-10.result (IsDue c.args.text.now.items c.put_word-10.new.text.items p) in
    subst P (sym c.in-LockReply-tcode_row.is)
    (on_ok_weaker c.put_word-10.result (λ e. longer_text _ _ (codes ",\"tcode\":") 11 (codes ",\"tcode_name\":") (codes "lock_response") (omega arith) (omega arith) e) c.put_word-10.ensures)
