use Rattle.fw_log_json.proofs.Common.{◌≡◌, ◌++◌, OnOk, codes, ℕ, arith, sym, subst, on_ok_weaker, function_name, code, one_text, coded}
use Rattle.fw_log_json.proofs.packet.put_function.Goals as goal

pub returns-then-function-eq-COMPARE_SWAP : goal.returns-then-function-eq-COMPARE_SWAP
returns-then-function-eq-COMPARE_SWAP c =
    let P : ℕ → Type 0 = λ n. OnOk c.put_word.result (c.put_word.new.text.items ≡ c.args.text.now.items
    ++ code (codes ",\"extended_tcode\":") n (codes ",\"extended_tcode_name\":") (function_name n)) in
    subst P (sym c.if-function-eq-COMPARE_SWAP.true) (on_ok_weaker c.put_word.result
    (λ e. one_text _ _ (codes ",\"extended_tcode\":") 2 (codes ",\"extended_tcode_name\":") (codes "compare_swap") (omega arith) e) c.put_word.ensures)

pub returns : goal.returns
returns c = on_ok_weaker c.put_code.result (λ piece. coded _ _ _ _ _ _ _ _ c.from.ensures c.function_name.ensures piece) c.put_code.ensures
