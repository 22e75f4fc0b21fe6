-- The lines of usual packets, from their parts.
use Rattle.std.proofs.Common.{◌≡◌, refl, ap, sym, subst, ◌∙◌, ℕ, ◌<◌, ◌^◌, ◌==◌, Bool, true, false, Option, Some, None, List, [], ◌++◌, append_assoc, if◌then◌else◌, eqb-true}
use Rattle.std.proofs.lemmas.List.{append-nil}
use Rattle.std.proofs.lemmas.Nat.{from_be_bytes-to_be_bytes_4}
use Rattle.std.specs.Prelude.{codes, decimal}
use Rattle.std.specs.Int.{to_be_bytes, w32}
use Rattle.fw_async.specs.Heads.{head_of}
use Rattle.fw_async.specs.declared.packet.Head.{Head}
use Rattle.fw_async.specs.declared.packet.Packet.{Packet}
use Rattle.fw_async.specs.declared.packet.Packet.TheVariants.{WriteQuadlet, WriteBlock, WriteReply, ReadQuadlet, ReadQuadletReply, CycleStart, Lock, LockReply}
use Rattle.fw_async_glance.proofs.GlanceLaws.{swap_back}
use Rattle.fw_words.specs.Quadlet.{field, quadlet_at}
use Rattle.fw_words.specs.Swaps.{quadlet_swap, swap_bytes}
use Rattle.fw_words.specs.declared.swap.Swap.{Swap as ASwap}
use Rattle.fw_words.specs.declared.swap.TheConstants.{COMPARE_SWAP}
use Rattle.fw_log_entry.specs.declared.entry.Entry.TheVariants.{Async}
use Rattle.fw_log_names.specs.Names.{tcode_name}
use Rattle.fw_log_registers.specs.Places.{place_of}
use Rattle.fw_csr.specs.declared.offset.TheConstants.{CYCLE_TIME}
use Rattle.fw_text.specs.Texts.{hex}
use Rattle.fw_log_registers.specs.Words.{place_text, told_field, told_text, word_text}
use Rattle.fw_log_registers.specs.declared.place.RegisterPlace.{RegisterPlace}
use Rattle.fw_log_requests.specs.declared.asked.Answer.TheVariants.{Write as WriteResponse, ReadQuadlet as ReadQuadletResponse, Lock as LockResponse}
use Rattle.fw_log_requests.specs.declared.asked.Asked.{Asked}
use Rattle.fw_log_requests.specs.Requests.{answered, asked, asked_by, standing_following, with_request, without_answered}
use Rattle.fw_log_explain.specs.Lines.{at_text, rcode_text, function_text, swap_text, swapped_text, response_text, read_text, asked_text, unasked_text, complete_text}
use Rattle.fw_log_explain.specs.Lines.{lock_text, locked_text, old_text, found_text, details, response_details, head_text, packet_text, what_text, line}
use Rattle.fw_log_explain.specs.Tails.{brought_text, change_text, changed_text, failed_text, pair_text, reading_text, tail_text, words_text, write_text, written_text}
use Rattle.fw_log_explain.specs.declared.tail.Tail.{Tail}
use Rattle.fw_log_explain.specs.declared.tail.TailWords.{TailWords}
use Rattle.fw_log_explain.specs.declared.tail.TailWords.TheVariants as Words
use Rattle.fw_log_explainer.specs.Lines.{time_text, usual_line, value_words, IsTold}

before_two : (a b c : List ℕ) → a ++ b ++ c ≡ a ++ (b ++ c)
before_two a b c = append_assoc a b c

before_three : (a b c d : List ℕ) → a ++ b ++ c ++ d ≡ a ++ (b ++ c ++ d)
before_three a b c d = ap (λ (t : List ℕ). t ++ d) (append_assoc a b c) ∙ append_assoc a (b ++ c) d

before_four : (a b c d e : List ℕ) → a ++ b ++ c ++ d ++ e ≡ a ++ (b ++ c ++ d ++ e)
before_four a b c d e = ap (λ (t : List ℕ). t ++ e) (before_three a b c d) ∙ append_assoc a (b ++ c ++ d) e

and_nothing : (a b : List ℕ) → a ++ b ≡ a ++ (b ++ [])
and_nothing a b = ap (λ (t : List ℕ). a ++ t) (sym (append-nil b))

-- what a packet says after its head
abbrev pub after_head : List Asked → Packet → List ℕ
after_head list p = codes " " ++ tcode_name p ++ details list p

-- from its parts a line is the one that the definition gives
parts_are : (d s h n x end : List ℕ) → d ++ s ++ h ++ ((s ++ n ++ x) ++ end) ≡ d ++ s ++ (h ++ s ++ n ++ x) ++ end
parts_are d s h n x end =
    sym (append_assoc (d ++ s ++ h) (s ++ n ++ x) end)
    ∙ ap (λ (t : List ℕ). t ++ end) (append_assoc (d ++ s) h (s ++ n ++ x) ∙ ap (λ (t : List ℕ). d ++ s ++ t) (sym (before_three h s n x)))

pub line_is : (list : List Asked) (cycle : ℕ) (p : Packet) (t : Tail) → tail_text t ≡ after_head list p → usual_line cycle (head_of p) t ≡ line list (record { cycle = cycle; what = Async p })
unfolding what_text packet_text
line_is list cycle p t e =
    ap (λ (x : List ℕ). decimal cycle ++ codes " " ++ head_text (head_of p) ++ (x ++ codes "\n")) e
    ∙ parts_are (decimal cycle) (codes " ") (head_text (head_of p)) (tcode_name p) (details list p) (codes "\n")

pub read_tail : (list : List Asked) (h : Head) (offset : ℕ) → tail_text (record { offset = offset; words = Words.Read }) ≡ after_head list (ReadQuadlet h offset)
unfolding details words_text reading_text
read_tail list h offset = refl

pub write_tail : (list : List Asked) (h : Head) (offset value : ℕ) → tail_text (record { offset = offset; words = Words.Write value }) ≡ after_head list (WriteQuadlet h offset value)
unfolding details words_text write_text
write_tail list h offset value = refl

pub pair_tail : (list : List Asked) (h : Head) (offset first second : ℕ)
    → tail_text (record { offset = offset; words = Words.WritePair first second }) ≡ after_head list (WriteBlock h offset (to_be_bytes w32 first ++ to_be_bytes w32 second))
unfolding details words_text pair_text
pair_tail list h offset first second = refl

swap_told : (o : Option ASwap) (s : ASwap) (function offset : ℕ) (bytes : List ℕ) → o ≡ Some s → function ≡ COMPARE_SWAP
    → change_text (place_of offset) s ≡ codes " lock_request" ++ lock_text (place_of offset) function bytes o
unfolding change_text lock_text
swap_told o s function offset bytes e f =
    let place : RegisterPlace = place_of offset in
    rw (e, f) (before_three (codes " lock_request") (function_text COMPARE_SWAP) (at_text place) (swap_text place s))

pub swap_tail : (list : List Asked) (h : Head) (offset : ℕ) (s : ASwap) → s.argument < 2 ^ 32 → s.new < 2 ^ 32
    → tail_text (record { offset = offset; words = Words.Swap s }) ≡ after_head list (Lock h offset COMPARE_SWAP (swap_bytes s))
unfolding details words_text
swap_tail list h offset s low small = swap_told (quadlet_swap COMPARE_SWAP (swap_bytes s)) s COMPARE_SWAP offset (swap_bytes s) (swap_back s low small) refl

value_told : (o : Option Asked) (q : Asked) (rcode value : ℕ) → o ≡ Some q → rcode ≡ 0
    → brought_text (place_of q.offset) value ≡ codes " read_quadlet_response" ++ response_text o rcode (read_text o value)
unfolding brought_text response_text read_text asked_text unasked_text
value_told o q rcode value e f =
    let word : List ℕ = codes " read_quadlet_response" in
    let place : RegisterPlace = place_of q.offset in
    let whole : List ℕ = rcode_text 0 ++ at_text place ++ word_text place value in
    rw (e, f) (before_three word (rcode_text 0) (at_text place) (word_text place value) ∙ and_nothing word whole)

failed_told : (o : Option Asked) (q : Asked) (rcode : ℕ) (brought : List ℕ) → o ≡ Some q → (rcode == 0) ≡ false
    → failed_text (place_of q.offset) rcode ≡ codes " read_quadlet_response" ++ response_text o rcode brought
unfolding failed_text response_text asked_text unasked_text
failed_told o q rcode brought e f =
    let word : List ℕ = codes " read_quadlet_response" in
    let whole : List ℕ = rcode_text rcode ++ at_text (place_of q.offset) in
    rw (e, f) (before_two word (rcode_text rcode) (at_text (place_of q.offset)) ∙ and_nothing word whole ∙ and_nothing word (whole ++ []))

-- by whether the response is complete
value_by : (o : Option Asked) (q : Asked) (rcode value : ℕ) (b : Bool) → o ≡ Some q → (rcode == 0) ≡ b
    → words_text q.offset (if b then Words.Value value else Words.NoValue rcode) ≡ codes " read_quadlet_response" ++ response_text o rcode (read_text o value)
unfolding words_text
value_by o q rcode value true e f = value_told o q rcode value e (eqb-true rcode 0 f)
value_by o q rcode value false e f = failed_told o q rcode (read_text o value) e f

pub value_tail : (list : List Asked) (h : Head) (q : Asked) (rcode value : ℕ) → answered ReadQuadletResponse h list ≡ Some q
    → tail_text (record { offset = q.offset; words = value_words rcode value }) ≡ after_head list (ReadQuadletReply h rcode value)
unfolding details response_details
value_tail list h q rcode value e = value_by (answered ReadQuadletResponse h list) q rcode value (rcode == 0) e refl

-- a write brings nothing, complete or not
written_by : (word code place : List ℕ) (b : Bool) → word ++ code ++ place ≡ word ++ (code ++ place ++ (if b then [] else []) ++ [])
written_by word code place true = before_two word code place ∙ and_nothing word (code ++ place) ∙ and_nothing word (code ++ place ++ [])
written_by word code place false = before_two word code place ∙ and_nothing word (code ++ place) ∙ and_nothing word (code ++ place ++ [])

written_told : (o : Option Asked) (q : Asked) (rcode : ℕ) → o ≡ Some q → written_text (place_of q.offset) rcode ≡ codes " write_response" ++ response_text o rcode []
unfolding written_text response_text asked_text unasked_text
written_told o q rcode e = rw e (written_by (codes " write_response") (rcode_text rcode) (at_text (place_of q.offset)) (rcode == 0))

pub written_tail : (list : List Asked) (h : Head) (q : Asked) (rcode : ℕ) → answered WriteResponse h list ≡ Some q
    → tail_text (record { offset = q.offset; words = Words.Written rcode }) ≡ after_head list (WriteReply h rcode)
unfolding details response_details words_text
written_tail list h q rcode e = written_told (answered WriteResponse h list) q rcode e

old_told : (o : Option Asked) (q : Asked) (s : ASwap) (rcode old : ℕ) → o ≡ Some q → q.swap ≡ Some s → rcode ≡ 0 → old < 2 ^ 32
    → changed_text (place_of q.offset) s old ≡ codes " lock_response" ++ locked_text o rcode COMPARE_SWAP (to_be_bytes w32 old)
unfolding changed_text locked_text asked_text unasked_text old_text found_text
old_told o q s rcode old e g f small =
    let word : List ℕ = codes " lock_response" in
    let place : RegisterPlace = place_of q.offset in
    let back : quadlet_at (to_be_bytes w32 old) 0 ≡ old = from_be_bytes-to_be_bytes_4 old small in
    let swapped : List ℕ = swapped_text place s old in
    let whole : List ℕ = rcode_text 0 ++ function_text COMPARE_SWAP ++ at_text place ++ swapped in
    rw (e, f, g, back) (before_four word (rcode_text 0) (function_text COMPARE_SWAP) (at_text place) swapped ∙ and_nothing word whole)

pub old_tail : (list : List Asked) (h : Head) (q : Asked) (s : ASwap) (rcode old : ℕ) → answered LockResponse h list ≡ Some q → q.swap ≡ Some s → rcode ≡ 0 → old < 2 ^ 32
    → tail_text (record { offset = q.offset; words = Words.Old s old }) ≡ after_head list (LockReply h rcode COMPARE_SWAP (to_be_bytes w32 old))
unfolding details response_details words_text
old_tail list h q s rcode old e g f small = old_told (answered LockResponse h list) q s rcode old e g f small

-- a response that was told, and its request is outstanding no longer
pub read_reply_told : (before after : List ℕ) (list rest : List Asked) (cycle : ℕ) (h : Head) (q : Asked) (rcode value : ℕ) → answered ReadQuadletResponse h list ≡ Some q
    → after ≡ before ++ usual_line cycle h (record { offset = q.offset; words = value_words rcode value }) → rest ≡ without_answered ReadQuadletResponse h list
    → IsTold before after list rest cycle (ReadQuadletReply h rcode value)
unfolding standing_following
read_reply_told before after list rest cycle h q rcode value e text requests = record {
  text = text ∙ ap (λ (x : List ℕ). before ++ x) (line_is list cycle (ReadQuadletReply h rcode value) (record { offset = q.offset; words = value_words rcode value })
      (value_tail list h q rcode value e));
  requests = requests;
}

pub write_reply_told : (before after : List ℕ) (list rest : List Asked) (cycle : ℕ) (h : Head) (q : Asked) (rcode : ℕ) → answered WriteResponse h list ≡ Some q
    → after ≡ before ++ usual_line cycle h (record { offset = q.offset; words = Words.Written rcode }) → rest ≡ without_answered WriteResponse h list
    → IsTold before after list rest cycle (WriteReply h rcode)
unfolding standing_following
write_reply_told before after list rest cycle h q rcode e text requests = record {
  text = text ∙ ap (λ (x : List ℕ). before ++ x) (line_is list cycle (WriteReply h rcode) (record { offset = q.offset; words = Words.Written rcode }) (written_tail list h q rcode e));
  requests = requests;
}

pub swap_reply_told : (before after : List ℕ) (list rest : List Asked) (cycle : ℕ) (h : Head) (q : Asked) (s : ASwap) (rcode old : ℕ) → answered LockResponse h list ≡ Some q → q.swap ≡ Some s
    → rcode ≡ 0 → old < 2 ^ 32
    → after ≡ before ++ usual_line cycle h (record { offset = q.offset; words = Words.Old s old }) → rest ≡ without_answered LockResponse h list
    → IsTold before after list rest cycle (LockReply h rcode COMPARE_SWAP (to_be_bytes w32 old))
unfolding standing_following
swap_reply_told before after list rest cycle h q s rcode old e g f small text requests = record {
  text = text ∙ ap (λ (x : List ℕ). before ++ x) (line_is list cycle (LockReply h rcode COMPARE_SWAP (to_be_bytes w32 old)) (record { offset = q.offset; words = Words.Old s old })
      (old_tail list h q s rcode old e g f small));
  requests = requests;
}

-- a request that was told, and stands
pub request_told : (before after : List ℕ) (list rest : List Asked) (cycle : ℕ) (p r : Packet) (words : TailWords) (q a : Asked) → p ≡ r → q ≡ a
    → tail_text (record { offset = a.offset; words = words }) ≡ after_head list r → standing_following r list ≡ with_request a list
    → (after ≡ before ++ usual_line cycle (head_of r) (record { offset = q.offset; words = words })) × (rest ≡ with_request q list) → IsTold before after list rest cycle p
request_told before after list rest cycle p r words q a is e tail stands told =
    let P : Packet → Type 0 = IsTold before after list rest cycle in
    subst P (sym is)
    (record {
      text = told.0 ∙ ap (λ (x : Asked). before ++ usual_line cycle (head_of r) (record { offset = x.offset; words = words })) e
          ∙ ap (λ (x : List ℕ). before ++ x) (line_is list cycle r (record { offset = a.offset; words = words }) tail);
      requests = told.1 ∙ ap (λ (x : Asked). with_request x list) e ∙ sym stands;
    })

pub read_stands : (list : List Asked) (h : Head) (offset : ℕ) → standing_following (ReadQuadlet h offset) list ≡ with_request (asked h ReadQuadletResponse offset None) list
unfolding standing_following asked_by
read_stands list h offset = refl

pub write_stands : (list : List Asked) (h : Head) (offset value : ℕ) → standing_following (WriteQuadlet h offset value) list ≡ with_request (asked h WriteResponse offset None) list
unfolding standing_following asked_by
write_stands list h offset value = refl

pub pair_stands : (list : List Asked) (h : Head) (offset : ℕ) (bytes : List ℕ) → standing_following (WriteBlock h offset bytes) list ≡ with_request (asked h WriteResponse offset None) list
unfolding standing_following asked_by
pair_stands list h offset bytes = refl

pub swap_stands : (list : List Asked) (h : Head) (offset : ℕ) (s : ASwap) → s.argument < 2 ^ 32 → s.new < 2 ^ 32
    → standing_following (Lock h offset COMPARE_SWAP (swap_bytes s)) list ≡ with_request (asked h LockResponse offset (Some s)) list
unfolding standing_following asked_by
swap_stands list h offset s low small = ap (λ (o : Option ASwap). with_request (asked h LockResponse offset o) list) (swap_back s low small)

-- the parts of a cycle start
flat : (w p b x s c o : List ℕ) → w ++ (p ++ (b ++ x ++ (s ++ (c ++ (o ++ []))))) ≡ w ++ p ++ b ++ x ++ s ++ c ++ o
flat w p b x s c o =
    ap (λ (t : List ℕ). w ++ (p ++ (b ++ x ++ (s ++ (c ++ t))))) (append-nil o)
    ∙ ap (λ (t : List ℕ). w ++ (p ++ t)) (before_back (b ++ x) s c o)
    ∙ ap (λ (t : List ℕ). w ++ t) (sym (append_assoc p (b ++ x ++ s ++ c) o) ∙ ap (λ (t : List ℕ). t ++ o) (sym (before_four p b x s c)))
    ∙ sym (append_assoc w (p ++ b ++ x ++ s ++ c) o)
    ∙ ap (λ (t : List ℕ). t ++ o) (sym (append_assoc w (p ++ b ++ x ++ s) c) ∙ ap (λ (t : List ℕ). t ++ c) (sym (before_four w p b x s)))
  where
    before_back : (a s c o : List ℕ) → a ++ (s ++ (c ++ o)) ≡ a ++ s ++ c ++ o
    before_back a s c o = sym (append_assoc a s (c ++ o)) ∙ sym (append_assoc (a ++ s) c o)

pub start_tail : (list : List Asked) (h : Head) (time : ℕ) → time_text time ≡ after_head list (CycleStart h CYCLE_TIME time)
unfolding details at_text place_of place_text word_text told_text told_field
start_tail list h time =
    sym (flat (codes " cycle_start") (codes " CYCLE_TIME") (codes " ") (hex 8 time) (codes ", second_count " ++ decimal (field time 0 6)) (codes ", cycle_count " ++ decimal (field time 7 19))
    (codes ", cycle_offset " ++ decimal (field time 20 31)))

-- a cycle start that was told
pub start_told : (before after : List ℕ) (list : List Asked) (cycle : ℕ) (p : Packet) (h : Head) (offset time : ℕ) → p ≡ CycleStart h offset time → offset ≡ CYCLE_TIME
    → after ≡ before ++ (decimal cycle ++ codes " " ++ head_text h ++ (time_text time ++ codes "\n")) → IsTold before after list list cycle p
unfolding what_text packet_text standing_following asked_by
start_told before after list cycle p h offset time is e text =
    let P : Packet → Type 0 = IsTold before after list list cycle in
    let start : Packet = CycleStart h CYCLE_TIME time in
    subst P (sym (is ∙ ap (λ (o : ℕ). CycleStart h o time) e))
    (record {
      text = text ∙ ap (λ (x : List ℕ). before ++ (decimal cycle ++ codes " " ++ head_text h ++ (x ++ codes "\n"))) (start_tail list h time)
          ∙ ap (λ (x : List ℕ). before ++ x) (parts_are (decimal cycle) (codes " ") (head_text h) (tcode_name start) (details list start) (codes "\n"));
      requests = refl;
    })
