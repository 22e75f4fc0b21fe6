-- One quadlet is of one packet.
use Rattle.std.proofs.Common.{◌≡◌, ◌≢◌, ℕ, zero, suc, ◌+◌, ◌/◌, ◌%◌, ◌^◌, ◌<◌, Bool, take, arith, refl, ap, sym, ◌∙◌, length, get_or, drop, drop-cons, add-one, List, [], ◌∷◌}
use Rattle.std.proofs.lemmas.List.{drop_all}
use Rattle.fw_words.specs.Quadlet.{field}
use Rattle.fw_words.specs.Layout.{values}
use Rattle.fw_words.proofs.LayoutLaws.{packed-same}
use Rattle.fw_phy.specs.declared.packet.SelfId.{SelfId as Self}
use Rattle.fw_phy.specs.declared.packet.SelfIdMore.{SelfIdMore as More}
use Rattle.fw_phy.specs.declared.packet.PhyPacket.{PhyPacket}
use Rattle.fw_phy.specs.declared.packet.PhyPacket.TheVariants.{SelfId, SelfIdMore, Config, LinkOn}
use Rattle.fw_phy.specs.Phy.{Fits, quadlet_of, layout, bit, twice}
use Rattle.fw_phy.proofs.TagLaws.{tag_self, tag_more, tag_config, tag_link_on}

-- the items from a place on
abbrev reads : List ℕ → ℕ → ℕ → List ℕ
reads xs at zero = []
reads xs at (suc n) = get_or xs at 0 ∷ reads xs (at + 1) n

drop-reads : (xs : List ℕ) (at n : ℕ) → at + n ≡ length xs → drop at xs ≡ reads xs at n
drop-reads xs at zero e = drop_all at xs (omega arith)
drop-reads xs at (suc n) e =
    let more : at < length xs = omega arith in
    drop-cons xs at 0 more ∙ ap (λ t. get_or xs at 0 ∷ drop t xs) (sym (add-one at)) ∙ ap (λ t. get_or xs at 0 ∷ t) (drop-reads xs (at + 1) n (omega arith))

same_three : (xs ys : List ℕ) → length xs ≡ 3 → length ys ≡ 3 → get_or xs 0 0 ≡ get_or ys 0 0 → get_or xs 1 0 ≡ get_or ys 1 0 → get_or xs 2 0 ≡ get_or ys 2 0 → xs ≡ ys
same_three xs ys m n a b c = let e = drop-reads xs 0 3 (sym m) in let f = drop-reads ys 0 3 (sym n) in cc

same_bit : (a b : Bool) → bit a ≡ bit b → a ≡ b
same_bit a b e = grind arith

self : ℕ → Bool → ℕ → ℕ → ℕ → Bool → ℕ → List ℕ → Bool → Bool → Self
self a b c d e f g h i j = record { phy = a; link = b; gap = c; speed = d; delay = e; contender = f; power = g; ports = h; initiator = i; more = j }

self_of : (s : Self) → s ≡ self s.phy s.link s.gap s.speed s.delay s.contender s.power s.ports s.initiator s.more
unfolding self
self_of s = refl

same_self : (s t : Self) → Fits (SelfId s) → Fits (SelfId t) → quadlet_of (SelfId s) ≡ quadlet_of (SelfId t) → s ≡ t
same_self s t f g e =
    let h = (packed-same (layout (SelfId s)) (layout (SelfId t)) 0 0 refl f.fields g.fields e).fields in
    let at = λ (i : ℕ). ap (λ fs. get_or (values fs) i 0) h in
    let phy : s.phy ≡ t.phy = at 1 in
    let link : s.link ≡ t.link = same_bit _ _ (at 3) in
    let gap : s.gap ≡ t.gap = at 4 in
    let speed : s.speed ≡ t.speed = at 5 in
    let delay : s.delay ≡ t.delay = at 6 in
    let contender : s.contender ≡ t.contender = same_bit _ _ (at 7) in
    let power : s.power ≡ t.power = at 8 in
    let ports : s.ports ≡ t.ports = same_three s.ports t.ports f.shape g.shape (at 9) (at 10) (at 11) in
    let initiator : s.initiator ≡ t.initiator = same_bit _ _ (at 12) in
    let more : s.more ≡ t.more = same_bit _ _ (at 13) in
    cc (self_of s, self_of t)

same_eight : (xs ys : List ℕ) → length xs ≡ 8 → length ys ≡ 8 → reads xs 0 8 ≡ reads ys 0 8 → xs ≡ ys
same_eight xs ys m n e = drop-reads xs 0 8 (sym m) ∙ e ∙ sym (drop-reads ys 0 8 (sym n))

more_with : ℕ → ℕ → List ℕ → Bool → More
more_with a b c d = record { phy = a; number = b; ports = c; more = d }

more_of : (s : More) → s ≡ more_with s.phy s.number s.ports s.more
unfolding more_with
more_of s = refl

same_more : (s t : More) → Fits (SelfIdMore s) → Fits (SelfIdMore t) → quadlet_of (SelfIdMore s) ≡ quadlet_of (SelfIdMore t) → s ≡ t
same_more s t f g e =
    let h = (packed-same (layout (SelfIdMore s)) (layout (SelfIdMore t)) 0 0 refl f.fields g.fields e).fields in
    let at = λ (i : ℕ). ap (λ fs. get_or (values fs) i 0) h in
    let phy : s.phy ≡ t.phy = at 1 in
    let number : s.number ≡ t.number = at 3 in
    let eight : reads s.ports 0 8 ≡ reads t.ports 0 8 = ap (λ fs. take 8 (drop 5 (values fs))) h in
    let ports : s.ports ≡ t.ports = same_eight s.ports t.ports f.shape.0 g.shape.0 eight in
    let more : s.more ≡ t.more = same_bit _ _ (at 14) in
    cc (more_of s, more_of t)

same_config : (root gap root' gap' : ℕ) (r t r' t' : Bool) → Fits (Config root r t gap) → Fits (Config root' r' t' gap') → quadlet_of (Config root r t gap) ≡ quadlet_of (Config root' r' t' gap')
    → Config root r t gap ≡ Config root' r' t' gap'
same_config root gap root' gap' r t r' t' f g e =
    let h = (packed-same (layout (Config root r t gap)) (layout (Config root' r' t' gap')) 0 0 refl f.fields g.fields e).fields in
    let at = λ (i : ℕ). ap (λ fs. get_or (values fs) i 0) h in
    let a : root ≡ root' = at 1 in
    let b : r ≡ r' = same_bit _ _ (at 2) in
    let c : t ≡ t' = same_bit _ _ (at 3) in
    let d : gap ≡ gap' = at 4 in
    cc

-- packets of different kinds have different quadlets
apart : {A : Type 0} (p r i j m n : ℕ) → field p i j ≡ m → field r i j ≡ n → m ≢ n → p ≡ r → A
apart p r i j m n a b differ e = absurd (differ (sym a ∙ ap (λ q. field q i j) e ∙ b))

-- one quadlet is of one packet
pub same_packet : (p r : PhyPacket) → Fits p → Fits r → quadlet_of p ≡ quadlet_of r → p ≡ r
same_packet (SelfId s) (SelfId t) f g e = ap SelfId (same_self s t f g e)
same_packet (SelfIdMore s) (SelfIdMore t) f g e = ap SelfIdMore (same_more s t f g e)
same_packet (Config a b c d) (Config a' b' c' d') f g e = same_config a d a' d' b c b' c' f g e
same_packet (LinkOn a) (LinkOn b) f g e = let h : a ≡ b = omega (arith, f.fields, g.fields) in ap LinkOn h
same_packet (SelfId s) (SelfIdMore t) f g e = apart _ _ 8 8 0 1 (tag_self s f).1 (tag_more t g).1 (λ z. cc) e
same_packet (SelfId s) (Config a' b' c' d') f g e = apart _ _ 0 1 2 0 (tag_self s f).0 (tag_config a' d' b' c' g).0 (λ z. cc) e
same_packet (SelfId s) (LinkOn y) f g e = apart _ _ 0 1 2 1 (tag_self s f).0 (tag_link_on y g).0 (λ z. cc) e
same_packet (SelfIdMore s) (SelfId t) f g e = apart _ _ 8 8 1 0 (tag_more s f).1 (tag_self t g).1 (λ z. cc) e
same_packet (SelfIdMore s) (Config a' b' c' d') f g e = apart _ _ 0 1 2 0 (tag_more s f).0 (tag_config a' d' b' c' g).0 (λ z. cc) e
same_packet (SelfIdMore s) (LinkOn y) f g e = apart _ _ 0 1 2 1 (tag_more s f).0 (tag_link_on y g).0 (λ z. cc) e
same_packet (Config a b c d) (SelfId t) f g e = apart _ _ 0 1 0 2 (tag_config a d b c f).0 (tag_self t g).0 (λ z. cc) e
same_packet (Config a b c d) (SelfIdMore t) f g e = apart _ _ 0 1 0 2 (tag_config a d b c f).0 (tag_more t g).0 (λ z. cc) e
same_packet (Config a b c d) (LinkOn y) f g e = apart _ _ 0 1 0 1 (tag_config a d b c f).0 (tag_link_on y g).0 (λ z. cc) e
same_packet (LinkOn x) (SelfId t) f g e = apart _ _ 0 1 1 2 (tag_link_on x f).0 (tag_self t g).0 (λ z. cc) e
same_packet (LinkOn x) (SelfIdMore t) f g e = apart _ _ 0 1 1 2 (tag_link_on x f).0 (tag_more t g).0 (λ z. cc) e
same_packet (LinkOn x) (Config a' b' c' d') f g e = apart _ _ 0 1 1 0 (tag_link_on x f).0 (tag_config a' d' b' c' g).0 (λ z. cc) e

pub same_twice : (q r : ℕ) → q < 2 ^ 32 → r < 2 ^ 32 → twice q ≡ twice r → q ≡ r
same_twice q r a b e =
    let at = λ (i : ℕ). ap (λ bs. get_or bs i 0) e in
    let b0 : q / 16777216 % 256 ≡ r / 16777216 % 256 = at 0 in
    let b1 : q / 65536 % 256 ≡ r / 65536 % 256 = at 1 in
    let b2 : q / 256 % 256 ≡ r / 256 % 256 = at 2 in
    let b3 : q % 256 ≡ r % 256 = at 3 in
    omega arith

pub below : (p : PhyPacket) → Fits p → quadlet_of p < 2 ^ 32
below (SelfId s) f = omega (arith, f.fields)
below (SelfIdMore s) f = omega (arith, f.fields)
below (Config a b c d) f = omega (arith, f.fields)
below (LinkOn x) f = omega (arith, f.fields)
