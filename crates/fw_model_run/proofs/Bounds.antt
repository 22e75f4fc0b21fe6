-- A bus has 63 nodes at most, and what the registers of a device on the bus show are quadlets.
use Rattle.fw_model_run.proofs.Common.{◌≡◌, ℕ, suc, ◌+◌, ◌-◌, ◌*◌, ◌/◌, ◌^◌, ◌<◌, ◌≤◌, ◌==◌, ◌&&◌, ◌||◌, nat_lt, List}
use Rattle.fw_model_run.proofs.Common.{[], ◌∷◌, length, slice_get, Bool, true, false, Option, Some, None, cond, refl, ap, sym}
use Rattle.fw_model_run.proofs.Common.{subst, ◌∙◌, arith, is_some, inl, inr, ⊤, nat_tests, same_Some}
use Rattle.fw_model_run.proofs.Common.{output_plugs_of, input_plugs_of, at_plug, ReadSwap, Reply, Swap, swap_bytes, request_at, ResetEntry}
use Rattle.fw_model_run.proofs.Common.{NodeRow, sound_made, node_of_device, is_output, is_input, is_output_of, is_input_of, ChannelsAvailable, OutputPlug, InputPlug, node_of, any_at, Space, answer_of}
use Rattle.fw_model_run.proofs.Common.{kind_at, node_number, row_of, Shows, State, number_in, space_at, manager_words, is_manager, reply_from, IsGood, IsLatest}
use Rattle.std.proofs.Common.{IfSome, eqb}
use Rattle.std.specs.List.{IsDistinct, AllByRecursion, list_any}
use Rattle.std.proofs.lemmas.Map.Steps.{length-le_from_distinct_below}
use Rattle.fw_terms.specs.Devices.{has_unit}
use Rattle.fw_terms.proofs.KindLaws.{plugs_few}
use Rattle.fw_csr.specs.declared.register.RegisterAccess.{RegisterAccess}
use Rattle.fw_csr.specs.declared.register.RegisterAccess.TheVariants.{ReadOnly, WriteOnly}
use Rattle.fw_csr.specs.Requests as Requests
use Rattle.fw_words.specs.Swaps.{quadlet_swap}
use Rattle.fw_csr.specs.Manager.{ManagerWords}
use Rattle.fw_csr.specs.Replies.{reply, swap_reply}
use Rattle.fw_plug.specs.Plugs.{plug_at, plug_register, output_master, input_master}
use Rattle.fw_log_entry.specs.Log.{devices}
use Rattle.fw_model_account.specs.Words.{BandwidthAvailable}
use Rattle.fw_model_account.proofs.Bounds.{word_below}
use Rattle.fw_node.specs.Contents.{node_ids, cycle_time}
use Rattle.fw_node.proofs.ContentLaws.{capabilities_below}
use Rattle.fw_node.specs.Space.{register_at, manager_register_at, core_register_at, plug_table, lies_within}
use Rattle.fw_plug.specs.Plugs as Plugs
use Rattle.fw_model_run.proofs.Words.{number_of_on, node_space_of}

-- ---- how many nodes a bus has

-- the device of each row is found at the row's place
abbrev AreFound : List NodeRow → Type 0
AreFound rows = (n : ℕ) (row : NodeRow) → slice_get rows n ≡ Some row → node_of_device rows row.device ≡ n

apart : (d : ℕ) (rows : List NodeRow) → ((n : ℕ) (row : NodeRow) → slice_get rows n ≡ Some row → eqb d row.device ≡ false)
    → AllByRecursion (λ y. eqb d y ≡ false) (devices rows)
apart d [] f = tt
apart d (r ∷ rs) f = (f 0 r refl, apart d rs (λ n row at. f (suc n) row at))

distinct : (rows : List NodeRow) → AreFound rows → IsDistinct eqb (devices rows)
unfolding IsDistinct
distinct [] f = tt
distinct (r ∷ rs) f = (apart r.device rs (λ n row at. other n row at (eqb r.device row.device) refl), distinct rs (λ n row at. later n row at (eqb r.device row.device) refl))
  where
    other : (n : ℕ) (row : NodeRow) → slice_get rs n ≡ Some row → (b : Bool) → eqb r.device row.device ≡ b → eqb r.device row.device ≡ false
    other n row at false t = t
    other n row at true t = let e : node_of_device (r ∷ rs) row.device ≡ 0 = rw t refl in let found = f (suc n) row at in absurd (omega (arith, e, found))

    later : (n : ℕ) (row : NodeRow) → slice_get rs n ≡ Some row → (b : Bool) → eqb r.device row.device ≡ b → node_of_device rs row.device ≡ n
    later n row at false t = let e : node_of_device (r ∷ rs) row.device ≡ 1 + node_of_device rs row.device = rw t refl in let found = f (suc n) row at in omega (arith, e, found)
    later n row at true t = let e : node_of_device (r ∷ rs) row.device ≡ 0 = rw t refl in let found = f (suc n) row at in absurd (omega (arith, e, found))

found_of : (rows : List NodeRow) (d n : ℕ) → node_number rows d ≡ Some n → node_of_device rows d ≡ n
found_of rows d n e = go (nat_lt (node_of_device rows d) (length rows)) e
  where
    go : (b : Bool) → cond b (Some (node_of_device rows d)) None ≡ Some n → node_of_device rows d ≡ n
    go true f = cc
    go false f = let no : ⊥ = cc in absurd no

-- a device among those of the rows has a row
below_of : (rows : List NodeRow) (d bound : ℕ) → ((n : ℕ) (row : NodeRow) → slice_get rows n ≡ Some row → row.device < bound)
    → list_any (eqb d) (devices rows) ≡ true → d < bound
below_of [] d bound f any = let no : ⊥ = cc in absurd no
below_of (r ∷ rs) d bound f any = go (eqb d r.device) refl (below_of rs d bound (λ n row at. f (suc n) row at)) any
  where
    go : (b : Bool) → eqb d r.device ≡ b → (list_any (eqb d) (devices rs) ≡ true → d < bound) → (b || list_any (eqb d) (devices rs)) ≡ true → d < bound
    go true t later h = let low = f 0 r refl in let same : d ≡ r.device = grind (arith, nat_tests) in omega (arith, low, same)
    go false t later h = later h

pub few_rows : (s : State) (e : ResetEntry) → IsGood s → Shows s.declared.topology s.declared.kinds e → length e.nodes ≤ 63
few_rows s e g h =
    let few = (sound_made s.declared.topology g.declared.made).few in
    let most = length-le_from_distinct_below (devices e.nodes) 63 (distinct e.nodes (λ n row at. found_of e.nodes row.device n (h.rows n row at).1))
    (λ d any. below_of e.nodes d 63 (λ n row at. let low = h.declared n row at in omega (arith, low, few)) any) in
    subst (λ n. n ≤ 63) (same e.nodes) most
  where
    same : (rows : List NodeRow) → length (devices rows) ≡ length rows
    same [] = refl
    same (r ∷ rs) = ap (λ n. suc n) (same rs)

place_within : (rows : List NodeRow) (d : ℕ) → node_of_device rows d ≤ length rows
place_within [] d = omega arith
place_within (r ∷ rs) d = go (eqb r.device d) refl (place_within rs d)
  where
    go : (b : Bool) → eqb r.device d ≡ b → node_of_device rs d ≤ length rs → node_of_device (r ∷ rs) d ≤ length (r ∷ rs)
    go true t w = let e : node_of_device (r ∷ rs) d ≡ 0 = rw t refl in omega (arith, e)
    go false t w = let e : node_of_device (r ∷ rs) d ≡ 1 + node_of_device rs d = rw t refl in omega (arith, e, w)

-- the number of a device's node, or how many nodes there are
pub node_few : (s : State) (d : ℕ) → IsGood s → node_of s.account.latest d ≤ 63
node_few s d g = go s.account.latest g.latest
  where
    go : (o : Option ResetEntry) → IsLatest o s.declared s.account → node_of o d ≤ 63
    go None h = omega arith
    go (Some e) h = let few = few_rows s e g h.1 in let within = place_within e.nodes d in omega (arith, few, within)

-- so is each number of one
pub number_few : (s : State) (d n : ℕ) → IsGood s → number_in s.account.latest d ≡ Some n → n ≤ 63
number_few s d n g at = subst (λ k. k ≤ 63) (same_Some (node_of s.account.latest d) n (sym (number_of_on s.account.latest d (ap is_some at)) ∙ at)) (node_few s d g)

-- ---- what registers show

-- the word that a register shows is a quadlet
abbrev RegisterBelow : Option RegisterAccess → Type 0
RegisterBelow None = ⊤
RegisterBelow (Some (ReadOnly word)) = word < 2 ^ 32
RegisterBelow (Some (ReadSwap word)) = word < 2 ^ 32
RegisterBelow (Some WriteOnly) = ⊤

-- all that a space shows are quadlets
pub record WordsBelow (z : Space) : Type 0 where
  pub number : z.number < 64
  pub device : z.device < 63
  pub rate : z.rate < 4
  pub outputs : (k : ℕ) → k < output_plugs_of z.kind → z.output_word k < 2 ^ 32
  pub inputs : (k : ℕ) → k < input_plugs_of z.kind → z.input_word k < 2 ^ 32
  pub bus_manager_id : IfSome z.manager (λ m. m.bus_manager_id < 2 ^ 32)
  pub bandwidth : IfSome z.manager (λ m. m.bandwidth_available < 2 ^ 32)
  pub high : IfSome z.manager (λ m. m.channels_available_hi < 2 ^ 32)
  pub low : IfSome z.manager (λ m. m.channels_available_lo < 2 ^ 32)

either : (b : Bool) (x y : Option RegisterAccess) → RegisterBelow x → RegisterBelow y → RegisterBelow (cond b x y)
either true x y f g = f
either false x y f g = g

plug_below : (word : ℕ → ℕ) (first plugs offset : ℕ) → ((k : ℕ) → k < plugs → word k < 2 ^ 32) → RegisterBelow (plug_register word (plug_at first plugs offset))
plug_below word first plugs offset f = go ((offset - first) / 4) ((offset == first + 4 * ((offset - first) / 4)) && nat_lt ((offset - first) / 4) plugs) refl
  where
    go : (n : ℕ) (b : Bool) → ((offset == first + 4 * n) && nat_lt n plugs) ≡ b → RegisterBelow (plug_register word (cond b (Some n) None))
    go n true t = f n (grind (arith, nat_tests))
    go n false t = tt

manager_below : (o : Option ManagerWords) (offset : ℕ) → IfSome o (λ m. m.bus_manager_id < 2 ^ 32) → IfSome o (λ m. m.bandwidth_available < 2 ^ 32)
    → IfSome o (λ m. m.channels_available_hi < 2 ^ 32) → IfSome o (λ m. m.channels_available_lo < 2 ^ 32)
    → RegisterBelow (manager_register_at o offset)
manager_below None offset a b c d = tt
manager_below (Some m) offset a b c d =
    either (offset == 0xFFFF_F000_021C) _ _ a (either (offset == 0xFFFF_F000_0220) _ _ b (either (offset == 0xFFFF_F000_0224) _ _ c (either (offset == 0xFFFF_F000_0228) _ _ d tt)))

core_below : (z : Space) (offset : ℕ) → WordsBelow z → RegisterBelow (core_register_at z offset)
core_below z offset w =
    let number = w.number in
    let device = w.device in
    let ids : node_ids z.number < 2 ^ 32 = omega (arith, number) in
    let time : cycle_time z.cycle < 2 ^ 32 = omega arith in
    let own : z.device < 2 ^ 32 = omega (arith, device) in
    either (offset == 0xFFFF_F000_0008) _ _ ids
    (either (offset == 0xFFFF_F000_0018) _ _ (omega arith)
    (either (offset == 0xFFFF_F000_001C) _ _ (omega arith)
    (either (offset == 0xFFFF_F000_0200) _ _ time
    (either (offset == 0xFFFF_F000_0404) _ _ (omega arith)
    (either (offset == 0xFFFF_F000_0408) _ _ (capabilities_below z.kind)
    (either (offset == 0xFFFF_F000_040C) _ _ (omega arith)
    (either (offset == 0xFFFF_F000_0410) _ _ own
    (either (offset == 0xFFFF_F000_0B00) _ _ (either (has_unit z.kind) (Some WriteOnly) None tt tt)
    (either (offset == 0xFFFF_F000_0D00) _ _ tt tt)))))))))

plugs_below : (z : Space) (offset : ℕ) → WordsBelow z → RegisterBelow (Plugs.register_at (plug_table z) offset)
plugs_below z offset w =
    let few = plugs_few z.kind in
    let outs = few.0 in
    let ins = few.1 in
    let rate = w.rate in
    let output : output_master z.rate (output_plugs_of z.kind) < 2 ^ 32 = omega (arith, outs, rate) in
    let input : input_master z.rate (input_plugs_of z.kind) < 2 ^ 32 = omega (arith, ins, rate) in
    either (offset == 0xFFFF_F000_0900) _ _ output
    (either (offset == 0xFFFF_F000_0980) _ _ input
    (either (nat_lt offset 0xFFFF_F000_0980) _ _ (plug_below z.output_word 0xFFFF_F000_0904 (output_plugs_of z.kind) offset w.outputs)
    (plug_below z.input_word 0xFFFF_F000_0984 (input_plugs_of z.kind) offset w.inputs)))

register_below : (z : Space) (offset : ℕ) → WordsBelow z → RegisterBelow (register_at z offset)
register_below z offset w =
    either (lies_within 0xFFFF_F000_021C 0xFFFF_F000_0228 offset) _ _ (manager_below z.manager offset w.bus_manager_id w.bandwidth w.high w.low)
    (either (lies_within 0xFFFF_F000_0900 0xFFFF_F000_09FC offset) _ _ (plugs_below z offset w) (core_below z offset w))

-- the registers of a device on the bus
pub words_below : (s : State) (d n : ℕ) → IsGood s → s.bus_manager_id < 2 ^ 32 → number_in s.account.latest d ≡ Some n → WordsBelow (space_at s d n)
words_below s d n g low at = go s.account.latest refl g.latest at
  where
    few_devices : length s.declared.topology.devices ≤ 63
    few_devices = (sound_made s.declared.topology g.declared.made).few

    managed : (P : ManagerWords → Type 0) (b : Bool) → P (manager_words s) → IfSome (cond b (Some (manager_words s)) None) P
    managed P true h = h
    managed P false h = tt

    of : (e : ResetEntry) → s.account.latest ≡ Some e → IsLatest (Some e) s.declared s.account → node_number e.nodes d ≡ Some n → WordsBelow (space_at s d n)
    of e is h at =
        let row : slice_get e.nodes n ≡ Some (row_of d (kind_at s.declared.kinds d)) = h.1.numbers d n at in
        let few = h.1.declared n (row_of d (kind_at s.declared.kinds d)) row in
        let slow = h.1.network.speeds n in
        let speed = h.1.speeds d n at in
        let place = number_few s d n g (ap (λ o. number_in o d) is ∙ at) in
        let test = is_manager s.account.latest n in
        record {
          number = omega (arith, place);
          device = omega (arith, few, few_devices);
          rate = omega (arith, slow, speed);
          outputs = λ k lt. word_below s.account (OutputPlug (at_plug d k)) g.reclaims.step.sound (ap (λ o. is_output o (at_plug d k)) is
              ∙ any_at (is_output_of (at_plug d k)) e.nodes n (row_of d (kind_at s.declared.kinds d)) row (grind (arith, nat_tests)));
          inputs = λ k lt. word_below s.account (InputPlug (at_plug d k)) g.reclaims.step.sound (ap (λ o. is_input o (at_plug d k)) is
              ∙ any_at (is_input_of (at_plug d k)) e.nodes n (row_of d (kind_at s.declared.kinds d)) row (grind (arith, nat_tests)));
          bus_manager_id = managed (λ m. m.bus_manager_id < 2 ^ 32) test low;
          bandwidth = managed (λ m. m.bandwidth_available < 2 ^ 32) test (word_below s.account BandwidthAvailable g.reclaims.step.sound tt);
          high = managed (λ m. m.channels_available_hi < 2 ^ 32) test (word_below s.account (ChannelsAvailable 0) g.reclaims.step.sound (inl refl));
          low = managed (λ m. m.channels_available_lo < 2 ^ 32) test (word_below s.account (ChannelsAvailable 32) g.reclaims.step.sound (inr refl));
        }

    go : (o : Option ResetEntry) → s.account.latest ≡ o → IsLatest o s.declared s.account → number_in o d ≡ Some n → WordsBelow (space_at s d n)
    go None is h x = absurd (grind (arith, x))
    go (Some e) is h x = of e is h x

-- ---- what an answer carries

-- the code and the value of a reply
pub record ReplyFits (r : Reply) : Type 0 where
  pub rcode : r.rcode < 2 ^ 4
  pub value : r.value < 2 ^ 32

swap_below : (word : ℕ) (o : Option Swap) → word < 2 ^ 32 → ReplyFits (swap_reply word o)
swap_below word None low = record { rcode = omega arith; value = omega arith }
swap_below word (Some swap) low = record { rcode = omega arith; value = low }

reply_below : (o : Option RegisterAccess) (offset : ℕ) (w : Option Swap) → RegisterBelow o → ReplyFits (reply o (request_at offset w))
reply_below None offset w f = record { rcode = omega arith; value = omega arith }
reply_below (Some (ReadOnly word)) offset None f = record { rcode = omega arith; value = f }
reply_below (Some (ReadOnly word)) offset (Some swap) f = record { rcode = omega arith; value = omega arith }
reply_below (Some (ReadSwap word)) offset None f = record { rcode = omega arith; value = f }
reply_below (Some (ReadSwap word)) offset (Some swap) f = swap_below word (quadlet_swap 2 (swap_bytes swap)) f
reply_below (Some WriteOnly) offset None f = record { rcode = omega arith; value = omega arith }
reply_below (Some WriteOnly) offset (Some swap) f = record { rcode = omega arith; value = omega arith }

same_offset : (offset : ℕ) (w : Option Swap) → Requests.offset_of (request_at offset w) ≡ offset
same_offset offset None = refl
same_offset offset (Some swap) = refl

-- what a device on the bus answers to a read or a compare_swap of a quadlet
pub space_fits : (s : State) (d n offset : ℕ) (w : Option Swap) → IsGood s → s.bus_manager_id < 2 ^ 32 → number_in s.account.latest d ≡ Some n
    → ReplyFits (answer_of (space_at s d n) (request_at offset w)).reply
space_fits s d n offset w g low at =
    reply_below (register_at (space_at s d n) (Requests.offset_of (request_at offset w))) offset w
    (subst (λ k. RegisterBelow (register_at (space_at s d n) k)) (sym (same_offset offset w)) (register_below (space_at s d n) offset (words_below s d n g low at)))

pub node_fits : (s : State) (d n offset : ℕ) (w : Option Swap) → IsGood s → s.bus_manager_id < 2 ^ 32 → number_in s.account.latest d ≡ Some n → ReplyFits (reply_from s n (request_at offset w))
node_fits s d n offset w g low at = subst (λ z. ReplyFits (answer_of z (request_at offset w)).reply) (sym (node_space_of s d n g at)) (space_fits s d n offset w g low at)
