use Rattle.fw_log_json.proofs.Common.{◌≡◌, ◌++◌, OnOk, codes, ℕ, arith, sym, subst, on_ok_weaker, retry_name, code, one_text, coded}
use Rattle.fw_log_json.proofs.packet.put_retry.Goals as goal

pub returns-in-0-retry_row : goal.returns-in-0-retry_row
returns-in-0-retry_row c =
    let P : ℕ → Type 0 = λ n. OnOk c.put_word.result (c.put_word.new.text.items ≡ c.args.text.now.items ++ code (codes ",\"retry\":") n (codes ",\"retry_name\":") (retry_name n)) in
    subst P (sym c.in-0-retry_row.is) (on_ok_weaker c.put_word.result (λ e. one_text _ _ (codes ",\"retry\":") 0 (codes ",\"retry_name\":") (codes "retry_1") (omega arith) e) c.put_word.ensures)

pub returns-in-1-retry_row : goal.returns-in-1-retry_row
returns-in-1-retry_row c =
    let P : ℕ → Type 0 = λ n. OnOk c.put_word-2.result (c.put_word-2.new.text.items ≡ c.args.text.now.items ++ code (codes ",\"retry\":") n (codes ",\"retry_name\":") (retry_name n)) in
    subst P (sym c.in-1-retry_row.is) (on_ok_weaker c.put_word-2.result (λ e. one_text _ _ (codes ",\"retry\":") 1 (codes ",\"retry_name\":") (codes "retry_x") (omega arith) e) c.put_word-2.ensures)

pub returns-in-2-retry_row : goal.returns-in-2-retry_row
returns-in-2-retry_row c =
    let P : ℕ → Type 0 = λ n. OnOk c.put_word-3.result (c.put_word-3.new.text.items ≡ c.args.text.now.items ++ code (codes ",\"retry\":") n (codes ",\"retry_name\":") (retry_name n)) in
    subst P (sym c.in-2-retry_row.is) (on_ok_weaker c.put_word-3.result (λ e. one_text _ _ (codes ",\"retry\":") 2 (codes ",\"retry_name\":") (codes "retry_a") (omega arith) e) c.put_word-3.ensures)

pub returns-in-3-retry_row : goal.returns-in-3-retry_row
returns-in-3-retry_row c =
    let P : ℕ → Type 0 = λ n. OnOk c.put_word-4.result (c.put_word-4.new.text.items ≡ c.args.text.now.items ++ code (codes ",\"retry\":") n (codes ",\"retry_name\":") (retry_name n)) in
    subst P (sym c.in-3-retry_row.is) (on_ok_weaker c.put_word-4.result (λ e. one_text _ _ (codes ",\"retry\":") 3 (codes ",\"retry_name\":") (codes "retry_b") (omega arith) e) c.put_word-4.ensures)

pub returns-in_default : goal.returns-in_default
returns-in_default c = on_ok_weaker c.put_code.result (λ piece. coded _ _ _ _ _ _ _ _ c.from.ensures c.retry_name.ensures piece) c.put_code.ensures
