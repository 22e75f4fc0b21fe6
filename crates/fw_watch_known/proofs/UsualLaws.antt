-- Packets that show nothing: what is kept of their channel stays.
use Rattle.std.proofs.Common.{◌≡◌, refl, ap, sym, ◌∙◌, ℕ, ◌&&◌, ◌||◌, not, Bool, true, false, is_none, List, Option, Some, None, if◌then◌else◌, arith}
use Rattle.std.proofs.Math.ListN.{set}
use Rattle.std.proofs.lemmas.List.{set-get_or}
use Rattle.std.proofs.lemmas.Bool.Decides.{nat_tests}
use Rattle.fw_watch_known.specs.declared.channel.Channel.{Channel}
use Rattle.fw_watch_known.specs.declared.channel.Due.{Due}
use Rattle.fw_watch_known.specs.declared.hear.Heard.{Heard}
use Rattle.fw_watch_known.specs.declared.hear.Packet.{Packet}
use Rattle.fw_watch_known.specs.declared.state.State.{State}
use Rattle.fw_watch_remarks.specs.Remarks.{counted}
use Rattle.fw_watch_known.specs.Channels.{channel_at, fresh, others_on}
use Rattle.fw_watch_known.specs.Heard.{is_free, is_sender, other_sender, is_usual, nothing_heard, heard, heard_on, owners_of, sender_after, channel_after, after_heard}

-- what is usual of a row
pub record IsUsualRow (s : State) (p : Packet) (row : Channel) : Type 0 where
  pub sender : row.sender ≡ Some p.sid
  pub due : row.due ≡ None
  pub told : (not row.noted.free && is_free s p.channel) ≡ false

both : (a b d : Bool) → (a && b && d) ≡ true → (a ≡ true) × ((b ≡ true) × (d ≡ true))
both true true d h = (refl, (refl, h))
both true false d h = cc h
both false b d h = cc h

sender_is : (sid : ℕ) (o : Option ℕ) → is_sender sid o ≡ true → o ≡ Some sid
sender_is sid None h = cc h
sender_is sid (Some k) h = let e : k ≡ sid = grind (arith, nat_tests) in ap Some e

never_due : (o : Option Due) → is_none o ≡ true → o ≡ None
never_due None h = refl
never_due (Some d) h = cc h

nothing_free : (told free : Bool) → (told || not free) ≡ true → (not told && free) ≡ false
nothing_free true free h = refl
nothing_free false true h = cc h
nothing_free false false h = refl

pub usual_row : (s : State) (p : Packet) → is_usual s p ≡ true → IsUsualRow s p (channel_at s.channels p.channel)
unfolding is_usual
usual_row s p h =
    let row : Channel = channel_at s.channels p.channel in
    let x = both (is_sender p.sid row.sender) (is_none row.due) (row.noted.free || not (is_free s p.channel)) h in
    record { sender = sender_is p.sid row.sender x.0; due = never_due row.due x.1.0; told = nothing_free row.noted.free (is_free s p.channel) x.1.1 }

-- of the known sender no other is told
no_other : (two : Bool) (sid : ℕ) (o : Option ℕ) → o ≡ Some sid → (if two then None else other_sender sid o) ≡ None
no_other true sid o e = refl
no_other false sid o e = ap (other_sender sid) e ∙ itself sid
  where
    itself : (k : ℕ) → other_sender k (Some k) ≡ None
    itself k = grind (arith, nat_tests)

no_owners : (plug : Bool) (sid n : ℕ) (o : Option ℕ) → o ≡ Some sid → (if plug || is_sender sid o then 0 else n) ≡ 0
no_owners plug sid n o e = ap (λ (x : Option ℕ). if plug || is_sender sid x then 0 else n) e ∙ itself plug sid
  where
    itself : (b : Bool) (k : ℕ) → (if b || is_sender k (Some k) then 0 else n) ≡ 0
    itself true k = refl
    itself false k = grind (arith, nat_tests)

heard_parts : (a b : Option ℕ) (f g : Bool) (m n : ℕ) → a ≡ b → f ≡ g → m ≡ n → ◌≡◌ {A = Heard} (record { first = a; free = f; owners = m }) (record { first = b; free = g; owners = n })
heard_parts a b f g m n e h i = cc

nothing_on : (row : Channel) (s : State) (p : Packet) → IsUsualRow s p row → heard_on row s p ≡ nothing_heard
unfolding owners_of
nothing_on row s p u =
    heard_parts (if row.noted.two then None else other_sender p.sid row.sender) None (not row.noted.free && is_free s p.channel) false
    (if row.noted.plug || is_sender p.sid row.sender then 0 else others_on s.plugs p.channel p.sid) 0
    (no_other row.noted.two p.sid row.sender u.sender) u.told (no_owners row.noted.plug p.sid (others_on s.plugs p.channel p.sid) row.sender u.sender)

-- such a packet shows nothing
pub usual_heard : (s : State) (p : Packet) → is_usual s p ≡ true → heard s p ≡ nothing_heard
unfolding heard
usual_heard s p h = nothing_on (channel_at s.channels p.channel) s p (usual_row s p h)

or_false : (b : Bool) → (b || false) ≡ b
or_false true = refl
or_false false = refl

row_with : Option Due → Option ℕ → Bool → Bool → Bool → Channel
row_with d o two free plug = record { due = d; sender = o; noted = record { two = two; free = free; plug = plug } }

same_row : (row : Channel) (sid : ℕ) → row.sender ≡ Some sid → row.due ≡ None → channel_after sid nothing_heard row ≡ row
unfolding channel_after row_with
same_row row sid e f =
    ap (λ (d : Option Due). row_with d (Some (sender_after sid row.sender)) (row.noted.two || false) (row.noted.free || false) (row.noted.plug || false)) (sym f)
    ∙ ap (λ (o : Option ℕ). row_with row.due o (row.noted.two || false) (row.noted.free || false) (row.noted.plug || false)) (ap (λ (o : Option ℕ). Some (sender_after sid o)) e ∙ sym e)
    ∙ ap (λ (b : Bool). row_with row.due row.sender b (row.noted.free || false) (row.noted.plug || false)) (or_false row.noted.two)
    ∙ ap (λ (b : Bool). row_with row.due row.sender row.noted.two b (row.noted.plug || false)) (or_false row.noted.free)
    ∙ ap (λ (b : Bool). row_with row.due row.sender row.noted.two row.noted.free b) (or_false row.noted.plug)

-- what is kept of its channel stays
pub usual_stays : (s : State) (p : Packet) → is_usual s p ≡ true → set s.channels p.channel (channel_after p.sid (heard s p) (channel_at s.channels p.channel)) ≡ s.channels
usual_stays s p h =
    let u = usual_row s p h in
    let row : Channel = channel_at s.channels p.channel in
    ap (λ (x : Heard). set s.channels p.channel (channel_after p.sid x row)) (usual_heard s p h)
    ∙ ap (λ (x : Channel). set s.channels p.channel x) (same_row row p.sid u.sender u.due) ∙ set-get_or s.channels p.channel fresh

-- so it is counted, and nothing else changes
pub usual_after : (s : State) (p : Packet) (n : ℕ) → is_usual s p ≡ true → n ≡ counted s.counts.packets → record s { counts = record s.counts { packets = n } } ≡ after_heard s p
unfolding after_heard
usual_after s p n h e =
    ap (λ (k : ℕ). record s { counts = record s.counts { packets = k } }) e
    ∙ ap (λ (cs : List Channel). record s { channels = cs; counts = record s.counts { packets = counted s.counts.packets } }) (sym (usual_stays s p h))
