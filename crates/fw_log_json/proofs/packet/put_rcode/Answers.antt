use Rattle.fw_log_json.proofs.Common.{◌≡◌, ◌++◌, OnOk, codes, ℕ, arith, sym, subst, on_ok_weaker, rcode_name, code, one_text, coded}
use Rattle.fw_log_json.proofs.packet.put_rcode.Goals as goal

pub returns-in-0-rcode_row : goal.returns-in-0-rcode_row
returns-in-0-rcode_row c =
    let P : ℕ → Type 0 = λ n. OnOk c.put_word.result (c.put_word.new.text.items ≡ c.args.text.now.items ++ code (codes ",\"rcode\":") n (codes ",\"rcode_name\":") (rcode_name n)) in
    subst P (sym c.in-0-rcode_row.is) (on_ok_weaker c.put_word.result (λ e. one_text _ _ (codes ",\"rcode\":") 0 (codes ",\"rcode_name\":") (codes "complete") (omega arith) e) c.put_word.ensures)

pub returns-in-4-rcode_row : goal.returns-in-4-rcode_row
returns-in-4-rcode_row c =
    let P : ℕ → Type 0 = λ n. OnOk c.put_word-2.result (c.put_word-2.new.text.items ≡ c.args.text.now.items ++ code (codes ",\"rcode\":") n (codes ",\"rcode_name\":") (rcode_name n)) in
    subst P (sym c.in-4-rcode_row.is) (on_ok_weaker c.put_word-2.result
    (λ e. one_text _ _ (codes ",\"rcode\":") 4 (codes ",\"rcode_name\":") (codes "conflict_error") (omega arith) e) c.put_word-2.ensures)

pub returns-in-5-rcode_row : goal.returns-in-5-rcode_row
returns-in-5-rcode_row c =
    let P : ℕ → Type 0 = λ n. OnOk c.put_word-3.result (c.put_word-3.new.text.items ≡ c.args.text.now.items ++ code (codes ",\"rcode\":") n (codes ",\"rcode_name\":") (rcode_name n)) in
    subst P (sym c.in-5-rcode_row.is) (on_ok_weaker c.put_word-3.result
    (λ e. one_text _ _ (codes ",\"rcode\":") 5 (codes ",\"rcode_name\":") (codes "data_error") (omega arith) e) c.put_word-3.ensures)

pub returns-in-6-rcode_row : goal.returns-in-6-rcode_row
returns-in-6-rcode_row c =
    let P : ℕ → Type 0 = λ n. OnOk c.put_word-4.result (c.put_word-4.new.text.items ≡ c.args.text.now.items ++ code (codes ",\"rcode\":") n (codes ",\"rcode_name\":") (rcode_name n)) in
    subst P (sym c.in-6-rcode_row.is) (on_ok_weaker c.put_word-4.result
    (λ e. one_text _ _ (codes ",\"rcode\":") 6 (codes ",\"rcode_name\":") (codes "type_error") (omega arith) e) c.put_word-4.ensures)

pub returns-in-7-rcode_row : goal.returns-in-7-rcode_row
returns-in-7-rcode_row c =
    let P : ℕ → Type 0 = λ n. OnOk c.put_word-5.result (c.put_word-5.new.text.items ≡ c.args.text.now.items ++ code (codes ",\"rcode\":") n (codes ",\"rcode_name\":") (rcode_name n)) in
    subst P (sym c.in-7-rcode_row.is) (on_ok_weaker c.put_word-5.result
    (λ e. one_text _ _ (codes ",\"rcode\":") 7 (codes ",\"rcode_name\":") (codes "address_error") (omega arith) e) c.put_word-5.ensures)

pub returns-in_default : goal.returns-in_default
returns-in_default c = on_ok_weaker c.put_code.result (λ piece. coded _ _ _ _ _ _ _ _ c.from.ensures c.rcode_name.ensures piece) c.put_code.ensures
