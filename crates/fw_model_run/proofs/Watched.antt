-- A watched register that is answered or shown is there, and its word is the account's.
use Rattle.fw_model_run.proofs.Common.{◌≡◌, ℕ, ◌+◌, ◌-◌, ◌*◌, ◌/◌, ◌^◌, ◌<◌, ◌==◌, ◌||◌, nat_lt, length, cond, Bool}
use Rattle.fw_model_run.proofs.Common.{true, false, Option, Some, None, slice_get, refl, ap, sym, subst, ◌∙◌, arith, IsTrue}
use Rattle.fw_model_run.proofs.Common.{to_be_bytes, w32, nat_tests, same_Some, output_plugs_of, input_plugs_of, at_plug, Reply}
use Rattle.fw_model_run.proofs.Common.{Swap, Async, ResetEntry, NodeRow, node_of_device, device_of_id, Register}
use Rattle.fw_model_run.proofs.Common.{ChannelsAvailable, OutputPlug, InputPlug, word_of, register_at, register_of, first_address, node_of, request_at, kind_at, row_of, shown_entry, State, number_in}
use Rattle.fw_model_run.proofs.Common.{space_at, reply_from, read_at, is_manager, manager_words, IsGood, IsLatest}
use Rattle.std.proofs.Common.{true≢false}
use Rattle.std.specs.Option.{option_or}
use Rattle.std.proofs.lemmas.Nat.{from_be_bytes-to_be_bytes_4}
use Rattle.fw_log_entry.specs.Network.{first_id}
use Rattle.fw_model_account.specs.Account.{Request}
use Rattle.fw_model_account.specs.Packets.{Read, Locked}
use Rattle.fw_model_account.specs.Words.{BandwidthAvailable, manager_register, plug_register}
use Rattle.fw_model_account.specs.Words.{output_register, input_register, plug_number, first_output, first_input, is_node, id_in}
use Rattle.fw_model_account.proofs.Places.{register_at_address}
use Rattle.fw_model_audit.specs.Looked.{Response, Replies, looked, quadlet_in, is_plug_offset, is_watched, register_by, IsQuadlet, ShowsWords}
use Rattle.fw_node.specs.Space as Spaces
use Rattle.fw_model_controllers.specs.Requests.{operation_of}
use Rattle.fw_model_run.specs.Spaces.{space_of_device}
use Rattle.fw_model_run.proofs.Answers.{answered, refused, output_missing, input_missing}
use Rattle.fw_model_run.proofs.Hears.{Responds}
use Rattle.fw_model_run.proofs.Shown.{IsPlugAt, plug_at_offset, same_test, space_shows}
use Rattle.fw_model_run.proofs.Words.{node_space_of, answers_word, register_below}

clash : {A : Type 0} (v : A) → None ≡ Some v → ⊥
clash v e = cc

-- ---- if the account has no register at a watched offset, the space of the node has none

none_of : {A : Type 0} (a b : Option A) → option_or a b ≡ None → (a ≡ None) × (b ≡ None)
none_of None b e = (refl, e)
none_of (Some v) b e = absurd (clash v (sym e))

number_there : (first offset : ℕ) → is_plug_offset first offset ≡ true → plug_number first offset ≡ Some ((offset - first) / 4)
number_there first offset t = ap (λ b. cond b (Some ((offset - first) / 4)) None) t

off_by : (b : Bool) (v : Register) → cond b (Some v) None ≡ None → b ≡ false
off_by true v e = absurd (clash v (sym e))
off_by false v e = refl

pub space_lacks : (s : State) (d n offset : ℕ) → IsGood s → number_in s.account.latest d ≡ Some n → IsTrue (is_watched offset) → register_at s.account.latest n offset ≡ None
    → Spaces.register_at (space_at s d n) (first_address + offset) ≡ None
space_lacks s d n offset g numbered watched none = by s.account.latest refl g.latest numbered none
  where
    Lacks : ℕ → Type 0
    Lacks o = Spaces.register_at (space_at s d n) (first_address + o) ≡ None

    -- the manager's registers
    managed : (e : ResetEntry) (k : ℕ) (v : Register) → s.account.latest ≡ Some e → manager_register k ≡ Some v → cond (is_node n e.manager) (manager_register k) None ≡ None
        → (space_at s d n).manager ≡ None
    managed e k v is at f = ap (λ b. cond b (Some (manager_words s)) None) not
      where
        off : (b : Bool) → cond b (manager_register k) None ≡ None → b ≡ false
        off true h = absurd (clash v (sym h ∙ at))
        off false h = refl

        not : is_manager s.account.latest n ≡ false
        not = ap (λ o. is_manager o n) is ∙ (same_test e.manager n ∙ off (is_node n e.manager) f)

    outputs : (row : NodeRow) → row ≡ row_of d (kind_at s.declared.kinds d) → is_plug_offset first_output offset ≡ true → output_register row (plug_number first_output offset) ≡ None → Lacks offset
    outputs row same t f =
        let number = number_there first_output offset t in
        let p : IsPlugAt first_output offset ((offset - first_output) / 4) = plug_at_offset first_output offset _ number in
        let few : nat_lt ((offset - first_output) / 4) row.outs ≡ false = off_by _ (OutputPlug (at_plug row.device ((offset - first_output) / 4))) (sym (ap (output_register row) number) ∙ f) in
        let missing : nat_lt ((offset - first_output) / 4) (output_plugs_of (kind_at s.declared.kinds d)) ≡ false =
        ap (λ (r : NodeRow). nat_lt ((offset - first_output) / 4) r.outs) (sym same) ∙ few in
        let place : first_address + offset ≡ 0xFFFF_F000_0904 + 4 * ((offset - first_output) / 4) = (let q = p.place in omega (arith, q)) in
        subst (λ k. Spaces.register_at (space_at s d n) k ≡ None) (sym place) (output_missing (space_at s d n) ((offset - first_output) / 4) p.few missing)

    inputs : (row : NodeRow) → row ≡ row_of d (kind_at s.declared.kinds d) → is_plug_offset first_input offset ≡ true → input_register row (plug_number first_input offset) ≡ None → Lacks offset
    inputs row same t f =
        let number = number_there first_input offset t in
        let p : IsPlugAt first_input offset ((offset - first_input) / 4) = plug_at_offset first_input offset _ number in
        let few : nat_lt ((offset - first_input) / 4) row.ins ≡ false = off_by _ (InputPlug (at_plug row.device ((offset - first_input) / 4))) (sym (ap (input_register row) number) ∙ f) in
        let missing : nat_lt ((offset - first_input) / 4) (input_plugs_of (kind_at s.declared.kinds d)) ≡ false = ap (λ (r : NodeRow). nat_lt ((offset - first_input) / 4) r.ins) (sym same) ∙ few in
        let place : first_address + offset ≡ 0xFFFF_F000_0984 + 4 * ((offset - first_input) / 4) = (let q = p.place in omega (arith, q)) in
        subst (λ k. Spaces.register_at (space_at s d n) k ≡ None) (sym place) (input_missing (space_at s d n) ((offset - first_input) / 4) p.few missing)

    five : (e : ResetEntry) → s.account.latest ≡ Some e → (row : NodeRow) → row ≡ row_of d (kind_at s.declared.kinds d)
        → cond (is_node n e.manager) (manager_register offset) None ≡ None → output_register row (plug_number first_output offset) ≡ None → input_register row (plug_number first_input offset) ≡ None
        → (p q r x y : Bool) → (offset == 0x220) ≡ p → (offset == 0x224) ≡ q → (offset == 0x228) ≡ r → is_plug_offset first_output offset ≡ x → is_plug_offset first_input offset ≡ y
        → (p || q || r || x || y) ≡ true → Lacks offset
    five e is row same m out into true q r x y tp tq tr tx ty w =
        let at : offset ≡ 0x220 = grind (arith, nat_tests) in
        subst Lacks (sym at) (let no = managed e 0x220 BandwidthAvailable is refl (ap (λ k. cond (is_node n e.manager) (manager_register k) None) (sym at) ∙ m) in rw no refl)
    five e is row same m out into false true r x y tp tq tr tx ty w =
        let at : offset ≡ 0x224 = grind (arith, nat_tests) in
        subst Lacks (sym at) (let no = managed e 0x224 (ChannelsAvailable 0) is refl (ap (λ k. cond (is_node n e.manager) (manager_register k) None) (sym at) ∙ m) in rw no refl)
    five e is row same m out into false false true x y tp tq tr tx ty w =
        let at : offset ≡ 0x228 = grind (arith, nat_tests) in
        subst Lacks (sym at) (let no = managed e 0x228 (ChannelsAvailable 32) is refl (ap (λ k. cond (is_node n e.manager) (manager_register k) None) (sym at) ∙ m) in rw no refl)
    five e is row same m out into false false false true y tp tq tr tx ty w = outputs row same tx out
    five e is row same m out into false false false false true tp tq tr tx ty w = inputs row same ty into
    five e is row same m out into false false false false false tp tq tr tx ty w = absurd (true≢false (sym w))

    by : (o : Option ResetEntry) → s.account.latest ≡ o → IsLatest o s.declared s.account → number_in o d ≡ Some n → register_at o n offset ≡ None → Lacks offset
    by None is h num f = absurd (clash n num)
    by (Some e) is h num f =
        let row : slice_get e.nodes n ≡ Some (row_of d (kind_at s.declared.kinds d)) = h.1.numbers d n num in
        let both = none_of (cond (is_node n e.manager) (manager_register offset) None) (plug_register (slice_get e.nodes n) offset) f in
        let plugs = none_of (output_register (row_of d (kind_at s.declared.kinds d)) (plug_number first_output offset))
        (input_register (row_of d (kind_at s.declared.kinds d)) (plug_number first_input offset)) (ap (λ o. plug_register o offset) (sym row) ∙ both.1) in
        five e is (row_of d (kind_at s.declared.kinds d)) refl both.0 plugs.0 plugs.1 (offset == 0x220) (offset == 0x224) (offset == 0x228) (is_plug_offset first_output offset)
        (is_plug_offset first_input offset) refl refl refl refl refl watched

-- so a node that answers a read or a swap there completely has the register
there : (s : State) (d n offset : ℕ) (w : Option Swap) → IsGood s → number_in s.account.latest d ≡ Some n → IsTrue (is_watched offset)
    → (reply_from s n (request_at (first_address + offset) w)).rcode ≡ 0
    → (register : Register) × (register_at s.account.latest n offset ≡ Some register)
there s d n offset w g numbered watched zero = go (register_at s.account.latest n offset) refl
  where
    go : (o : Option Register) → register_at s.account.latest n offset ≡ o → (register : Register) × (register_at s.account.latest n offset ≡ Some register)
    go (Some register) at = (register, at)
    go None at =
        let x = refused (space_at s d n) (first_address + offset) w (space_lacks s d n offset g numbered watched at) in
        let y : reply_from s n (request_at (first_address + offset) w) ≡ record { rcode = 7; value = 0 } =
        ap (λ z. (Spaces.answer_of z (request_at (first_address + offset) w)).reply) (node_space_of s d n g numbered) ∙ x in
        let seven = ap (λ (r : Reply). r.rcode) y in
        absurd (omega (arith, seven, zero))

-- ---- responses

-- the quadlet that a complete response shows
swap_word : (value : ℕ) → value < 2 ^ 32 → quadlet_in (to_be_bytes w32 value) ≡ Some value
swap_word value lt = ap (λ v. Some v) (from_be_bytes-to_be_bytes_4 value lt)

is_swap : (w : Option Swap) → IsQuadlet (operation_of w)
is_swap None = tt
is_swap (Some swap) = refl

-- a complete response to the outstanding request shows the word of its register
shows_watched : (s : State) (e n source d : ℕ) (w : Option Swap) (address : ℕ) → IsGood s → number_in s.account.latest e ≡ Some n → device_of_id s.account.latest (first_id + source) ≡ Some d
    → s.account.outstanding d ≡ Some (record { target = first_id + n; address = address; operation = operation_of w })
    → (y : Response) → y.requester ≡ first_id + source → y.rcode ≡ (reply_from s n (request_at address w)).rcode
    → ((reply_from s n (request_at address w)).rcode ≡ 0 → (reply_from s n (request_at address w)).value < 2 ^ 32 → y.word ≡ Some (reply_from s n (request_at address w)).value)
    → ShowsWords s.account (Replies y)
shows_watched s e n source d w address g numbered device asked y own code word q offset a =
    (register.0, place, shown, subst (λ (z : Request). IsQuadlet z.operation) (sym same) (is_swap w))
  where
    r : Reply
    r = reply_from s n (request_at address w)

    request : Request
    request = record { target = first_id + n; address = address; operation = operation_of w }

    same : q ≡ request
    same =
        let c : a.answer.controller ≡ d = same_Some a.answer.controller d (sym a.answer.device ∙ (ap (device_of_id s.account.latest) own ∙ device)) in
        same_Some q request (sym a.answer.outstanding ∙ (ap s.account.outstanding c ∙ asked))

    zero : r.rcode ≡ 0
    zero = sym code ∙ a.complete

    at : address ≡ first_address + offset
    at = ap (λ (z : Request). z.address) (sym same) ∙ a.address

    register : (register : Register) × (register_at s.account.latest n offset ≡ Some register)
    register = there s e n offset w g numbered a.watched (ap (λ k. (reply_from s n (request_at k w)).rcode) (sym at) ∙ zero)

    stands : register_of s.account.latest (first_id + n) address ≡ Some register.0
    stands = ap (register_of s.account.latest (first_id + n)) at ∙ (register_at_address s.account.latest n offset ∙ register.1)

    place : register_of s.account.latest q.target q.address ≡ Some register.0
    place = ap (λ (z : Request). register_of s.account.latest z.target z.address) same ∙ stands

    value : r.value ≡ word_of s.account register.0
    value = ap (λ (z : Reply). z.value) (answers_word s e n address w register.0 g numbered stands)

    shown : y.word ≡ Some (word_of s.account register.0)
    shown = word zero (subst (λ k. k < 2 ^ 32) (sym value) (register_below s n address register.0 g stands)) ∙ ap (λ v. Some v) value

pub reply_watched : (s : State) (e n source d : ℕ) (w : Option Swap) (address : ℕ) (x : Responds n source address w (reply_from s n (request_at address w))) → IsGood s
    → number_in s.account.latest e ≡ Some n
    → device_of_id s.account.latest (first_id + source) ≡ Some d → s.account.outstanding d ≡ Some (record { target = first_id + n; address = address; operation = operation_of w })
    → ShowsWords s.account (looked (Async x.packet))
reply_watched s e n source d None address x g numbered device asked =
    let r : Reply = reply_from s n (request_at address None) in
    subst (λ p. ShowsWords s.account (looked (Async p))) (sym x.is) (shows_watched s e n source d None address g numbered device asked
    (record { requester = first_id + source; responder = first_id + n; rcode = r.rcode; reply = Read; word = Some r.value }) refl refl (λ zero lt. refl))
reply_watched s e n source d (Some swap) address x g numbered device asked =
    let r : Reply = reply_from s n (request_at address (Some swap)) in
    subst (λ p. ShowsWords s.account (looked (Async p))) (sym x.is.1) (shows_watched s e n source d (Some swap) address g numbered device asked
    (record { requester = first_id + source; responder = first_id + n; rcode = r.rcode; reply = Locked 2 r.rcode x.is.0; word = quadlet_in x.is.0 }) refl refl
    (λ zero lt. ap quadlet_in (x.is.2 zero) ∙ swap_word r.value lt))

-- ---- shown words

id_of_number : (latest : Option ResetEntry) (d n : ℕ) → number_in latest d ≡ Some n → id_in latest d ≡ Some (first_id + n)
id_of_number None d n e = absurd (clash n e)
id_of_number (Some r) d n e = go (nat_lt (node_of_device r.nodes d) (length r.nodes)) e
  where
    go : (b : Bool) → cond b (Some (node_of_device r.nodes d)) None ≡ Some n → cond b (Some (first_id + node_of_device r.nodes d)) None ≡ Some (first_id + n)
    go true f = ap (λ k. Some (first_id + k)) (same_Some (node_of_device r.nodes d) n f)
    go false f = absurd (clash n f)

pub shown_watched : (s : State) (d offset : ℕ) → IsGood s → number_in s.account.latest d ≡ Some (node_of s.account.latest d) → (read_at s d offset).rcode ≡ 0
    → ShowsWords s.account (looked (shown_entry d offset (read_at s d offset).value))
shown_watched s d offset g numbered zero watched = (register.0, place, value)
  where
    n : ℕ
    n = node_of s.account.latest d

    register : (register : Register) × (register_at s.account.latest n offset ≡ Some register)
    register = there s d n offset None g numbered watched (ap (λ z. (Spaces.answer_of z (request_at (first_address + offset) None)).reply.rcode) (node_space_of s d n g numbered) ∙ zero)

    place : register_by s.account.latest offset (id_in s.account.latest d) ≡ Some register.0
    place = ap (register_by s.account.latest offset) (id_of_number s.account.latest d n numbered) ∙ (register_at_address s.account.latest n offset ∙ register.1)

    value : (read_at s d offset).value ≡ word_of s.account register.0
    value = ap (λ (x : Reply). x.value) (answered (space_of_device s d) (first_address + offset) None (word_of s.account register.0) (space_shows s d n offset register.0 g numbered register.1))
