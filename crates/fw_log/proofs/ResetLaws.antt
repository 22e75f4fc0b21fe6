-- The body of a reset, and the reset that it is.
use Rattle.fw_log.proofs.Common.{◌≡◌, ℕ, ◌+◌, ◌-◌, ◌*◌, ◌^◌, ◌≤◌, ◌<◌, List, [], ◌∷◌, ◌++◌, get_or, flat_map, length, take, drop, Bool, true, false, nat_le, ◌&&◌, Option, Some, None, Err, IfSome}
use Rattle.fw_log.proofs.Common.{arith, refl, ap, sym, subst, ◌∙◌, length-append, take-add, nat_tests, take_rest, drop-drop, take-append-drop, All, to_be_bytes, w32, field, quadlet_at, packed}
use Rattle.fw_log.proofs.Common.{spelling, PhyPacket, quads, node_quad, are_ids, body, IsBody, BodyRefused, Entry, Reset, Async, Iso, Event, Outcome, Shown, End, BodyFault, Fields}
use Rattle.std.proofs.Common.{map}
use Rattle.std.proofs.lemmas.Grind.{flat_map-append}
use Rattle.std.proofs.lemmas.List.{length-map, take_at, drop_at, drop_more, map-append}
use Rattle.std.proofs.lemmas.List.Elements.{All-push, All-head, All-tail, All-weaker}
use Rattle.fw_phy.specs.declared.PhyFault.{PhyFault}
use Rattle.fw_log_entry.specs.Log.{manager_byte, ResetFits, RowFits}
use Rattle.fw_log.specs.Bodies.{Refuses, PhyRefuses, IdsJudges, refusal, count_of, ids_at, has_nodes}
use Rattle.fw_log.specs.declared.BodyFault.TheVariants.{Phy, Packet, Iso as IsoFails}
use Rattle.fw_log.specs.Resets.{RowShape, ResetShape}
use Rattle.fw_log_entry.specs.declared.nodes.NodeRow.{NodeRow}
use Rattle.fw_log_entry.specs.declared.entry.ResetEntry.{ResetEntry}
use Rattle.fw_log.proofs.IdsLaws.{back, same_ids, ids_clear}

-- one node more
pub nodes_more : (nodes new : List NodeRow) (r : NodeRow) (q i : ℕ) (bytes : List ℕ) → quads (map node_quad nodes) ≡ take (4 * i) bytes → new ≡ nodes ++ r ∷ [] → node_quad r ≡ q
    → to_be_bytes w32 q ≡ take 4 (drop (4 * i) bytes)
    → quads (map node_quad new) ≡ take (4 * (i + 1)) bytes
nodes_more nodes new r q i bytes h e f four =
    let one : quads (map node_quad (r ∷ [])) ≡ to_be_bytes w32 q = ap (to_be_bytes w32) f in
    let n : 4 * i + 4 ≡ 4 * (i + 1) = omega arith in
    ap (λ t. quads (map node_quad t)) e ∙ ap quads (map-append node_quad nodes (r ∷ [])) ∙ flat_map-append (to_be_bytes w32) (map node_quad nodes) (node_quad r ∷ [])
    ∙ ap (λ t. quads (map node_quad nodes) ++ t) (one ∙ four) ∙ ap (λ t. t ++ take 4 (drop (4 * i) bytes)) h ∙ sym (take-add (4 * i) 4 bytes) ∙ ap (λ k. take k bytes) n

pub fits_more : (nodes new : List NodeRow) (r : NodeRow) → All RowShape nodes → new ≡ nodes ++ r ∷ [] → RowShape r → All RowShape new
fits_more nodes new r h e f = let P : List NodeRow → Type 0 = All RowShape in subst P (sym e) (All-push RowShape nodes r h f)

-- a packet after which nothing goes on
pub ids_stop : (ids : List PhyPacket) (i node n : ℕ) (next : Option ℕ) (p : PhyPacket) (complete : Bool) → i < length ids → p ≡ get_or ids i p → are_ids node next (p ∷ drop (i + 1) ids) n ≡ false
    → are_ids node next (drop i ids) n ≡ complete → false ≡ complete
ids_stop ids i node n next p complete more is stop h =
    sym stop ∙ ap (λ x. are_ids node next (x ∷ drop (i + 1) ids) n) is ∙ sym (ap (λ t. are_ids node next t n) (drop_more ids i p more)) ∙ h

-- a node is its quadlet
row : ℕ → ℕ → ℕ → ℕ → NodeRow
row a b c d = record { device = a; outs = b; ins = c; kind = d }

row_of : (r : NodeRow) → r ≡ row r.device r.outs r.ins r.kind
unfolding row
row_of r = refl

same_row : (r s : NodeRow) → RowShape r → RowShape s → node_quad r ≡ node_quad s → r ≡ s
same_row r s f g e =
    let a : r.device ≡ s.device = omega (arith, f, g) in
    let b : r.outs ≡ s.outs = omega (arith, f, g) in
    let c : r.ins ≡ s.ins = omega (arith, f, g) in
    let d : r.kind ≡ s.kind = omega (arith, f, g) in
    cc (row_of r, row_of s)

row_below : (r : NodeRow) → RowShape r → node_quad r < 2 ^ 32
row_below r f = omega (arith, f)

pub length-quads : (qs : List ℕ) → length (quads qs) ≡ 4 * length qs
length-quads [] = refl
length-quads (q ∷ qs) = omega (arith, length-quads qs, length-append (to_be_bytes w32 q) (quads qs))

both : (p q : NodeRow) (ps qs : List NodeRow) → p ≡ q → ps ≡ qs → p ∷ ps ≡ q ∷ qs
both p q ps qs e f = cc

same_rows : (a b : List NodeRow) → All RowShape a → All RowShape b → quads (map node_quad a) ≡ quads (map node_quad b) → a ≡ b
same_rows [] [] f g e = refl
same_rows [] (q ∷ qs) f g e = cc e
same_rows (p ∷ ps) [] f g e = cc e
same_rows (p ∷ ps) (q ∷ qs) f g e =
    let here = All-head RowShape p ps f in
    let there = All-head RowShape q qs g in
    let first : node_quad p ≡ node_quad q = sym (back (node_quad p) (quads (map node_quad ps)) (row_below p here)) ∙ ap (λ t. quadlet_at t 0) e
    ∙ back (node_quad q) (quads (map node_quad qs)) (row_below q there) in
    both p q ps qs (same_row p q here there first) (same_rows ps qs (All-tail RowShape p ps f) (All-tail RowShape q qs g) (ap (drop 4) e))

-- a reset is its body
abbrev pub second_of : ResetEntry → ℕ
second_of r = packed ((8, r.root) ∷ (8, manager_byte r.manager) ∷ (8, r.initiator) ∷ (8, length r.nodes) ∷ []) 0

manager_below : (m : Option ℕ) → IfSome m (λ k. k < 255) → manager_byte m < 256
manager_below None h = omega arith
manager_below (Some k) h = omega (arith, h)

same_manager : (m k : Option ℕ) → IfSome m (λ n. n < 255) → IfSome k (λ n. n < 255) → manager_byte m ≡ manager_byte k → m ≡ k
same_manager None None f g e = refl
same_manager None (Some k) f g e = absurd (omega (arith, g, e))
same_manager (Some m) None f g e = absurd (omega (arith, f, e))
same_manager (Some m) (Some k) f g e = ap Some e

reset_with : ℕ → ℕ → Option ℕ → ℕ → List NodeRow → List PhyPacket → ResetEntry
reset_with a b c d e f = record { epoch = a; root = b; manager = c; initiator = d; nodes = e; ids = f }

reset_is : (r : ResetEntry) → r ≡ reset_with r.epoch r.root r.manager r.initiator r.nodes r.ids
unfolding reset_with
reset_is r = refl

second_below : (r : ResetEntry) → ResetShape r → second_of r < 2 ^ 32
second_below r f = let m = manager_below r.manager f.manager in omega (arith, f.root, f.initiator, f.few, m)

four_fields : (a b c d a' b' c' d' : ℕ) → a < 256 → b < 256 → c < 256 → d < 256 → a' < 256 → b' < 256 → c' < 256 → d' < 256
    → packed ((8, a) ∷ (8, b) ∷ (8, c) ∷ (8, d) ∷ []) 0 ≡ packed ((8, a') ∷ (8, b') ∷ (8, c') ∷ (8, d') ∷ []) 0 → (a ≡ a') × (b ≡ b') × (c ≡ c') × (d ≡ d')
four_fields a b c d a' b' c' d' p q r s p' q' r' s' e = (omega arith, omega arith, omega arith, omega arith)

following : (r : ResetEntry) → List ℕ
following r = quads (map node_quad r.nodes) ++ flat_map spelling r.ids

pub same_reset : (r s : ResetEntry) → ResetShape r → ResetShape s → body (Reset r) ≡ body (Reset s) → r ≡ s
same_reset r s f g e =
    let epoch : r.epoch ≡ s.epoch = sym (back r.epoch (drop 4 (body (Reset r))) f.epoch) ∙ ap (λ t. quadlet_at t 0) e ∙ back s.epoch (drop 4 (body (Reset s))) g.epoch in
    let second : second_of r ≡ second_of s = sym (back (second_of r) (drop 8 (body (Reset r))) (second_below r f)) ∙ ap (λ t. quadlet_at (drop 4 t) 0) e
    ∙ back (second_of s) (drop 8 (body (Reset s))) (second_below s g) in
    let h = four_fields r.root (manager_byte r.manager) r.initiator (length r.nodes) s.root (manager_byte s.manager) s.initiator (length s.nodes)
    f.root (manager_below r.manager f.manager) f.initiator (omega (arith, f.few)) g.root (manager_below s.manager g.manager) g.initiator (omega (arith, g.few)) second in
    let rest : quads (map node_quad r.nodes) ++ flat_map spelling r.ids ≡ quads (map node_quad s.nodes) ++ flat_map spelling s.ids = ap (drop 8) e in
    let m : length (quads (map node_quad r.nodes)) ≡ 4 * length r.nodes = length-quads (map node_quad r.nodes) ∙ ap (λ n. 4 * n) (length-map r.nodes node_quad) in
    let n : length (quads (map node_quad s.nodes)) ≡ 4 * length r.nodes = length-quads (map node_quad s.nodes) ∙ ap (λ n. 4 * n) (length-map s.nodes node_quad ∙ sym h.3) in
    let rows : quads (map node_quad r.nodes) ≡ quads (map node_quad s.nodes) =
    sym (take_at (quads (map node_quad r.nodes)) (flat_map spelling r.ids) (4 * length r.nodes) m) ∙ ap (take (4 * length r.nodes)) rest
    ∙ take_at (quads (map node_quad s.nodes)) (flat_map spelling s.ids) (4 * length r.nodes) n in
    let ids : flat_map spelling r.ids ≡ flat_map spelling s.ids =
    sym (drop_at (quads (map node_quad r.nodes)) (flat_map spelling r.ids) (4 * length r.nodes) m) ∙ ap (drop (4 * length r.nodes)) rest
    ∙ drop_at (quads (map node_quad s.nodes)) (flat_map spelling s.ids) (4 * length r.nodes) n in
    let a : r.root ≡ s.root = h.0 in
    let b : r.manager ≡ s.manager = same_manager r.manager s.manager f.manager g.manager h.1 in
    let c : r.initiator ≡ s.initiator = h.2 in
    let d : r.nodes ≡ s.nodes = same_rows r.nodes s.nodes f.rows g.rows rows in
    let i : r.ids ≡ s.ids = same_ids r.ids s.ids f.packets g.packets ids in
    cc (reset_is r, reset_is s)

-- what fits has its shape
row_shape : (r : NodeRow) → RowFits r → RowShape r
row_shape r f = record { device = omega (arith, f.device); outs = omega (arith, f.outs); ins = omega (arith, f.ins); kind = omega (arith, f.kind) }

few_manager : (m : Option ℕ) (n : ℕ) → n ≤ 63 → IfSome m (λ k. k < n) → IfSome m (λ k. k < 255)
few_manager None n le h = tt
few_manager (Some k) n le h = omega (arith, h)

pub shape_of : (r : ResetEntry) → ResetFits r → ResetShape r
shape_of r f = record {
  epoch = f.epoch;
  root = omega (arith, f.root, f.few);
  manager = few_manager r.manager (length r.nodes) f.few f.manager;
  initiator = omega (arith, f.initiator, f.few);
  some = f.some;
  few = f.few;
  rows = All-weaker RowFits RowShape row_shape r.nodes f.rows;
  packets = f.packets;
  few_packets = f.few_packets;
}

-- the nodes and the packets that the body of a reset has
pub record BodyHas (r : ResetEntry) (bytes : List ℕ) : Type 0 where
  pub count : count_of bytes ≡ length r.nodes
  pub nodes : has_nodes bytes ≡ true
  pub ids : drop (ids_at bytes) bytes ≡ flat_map spelling r.ids

nodes_there : (n k m : ℕ) → n ≡ m → 1 ≤ m → m ≤ 63 → 8 + 4 * n ≤ k → (nat_le 1 n && nat_le n 63 && nat_le (8 + 4 * n) k) ≡ true
nodes_there n k m e some few within = grind (arith, nat_tests)

low_field : (a b c d : ℕ) → a < 256 → b < 256 → c < 256 → d < 256 → field (packed ((8, a) ∷ (8, b) ∷ (8, c) ∷ (8, d) ∷ []) 0) 24 31 ≡ d
low_field a b c d p q r s = omega arith

pub body_has : (r : ResetEntry) (bytes : List ℕ) → ResetShape r → body (Reset r) ≡ bytes → BodyHas r bytes
body_has r bytes f e =
    let second : quadlet_at bytes 4 ≡ second_of r = ap (λ t. quadlet_at (drop 4 t) 0) (sym e) ∙ back (second_of r) (drop 8 (body (Reset r))) (second_below r f) in
    let count : count_of bytes ≡ length r.nodes = ap (λ q. field q 24 31) second
    ∙ low_field r.root (manager_byte r.manager) r.initiator (length r.nodes) f.root (manager_below r.manager f.manager) f.initiator (omega (arith, f.few)) in
    let m : length (quads (map node_quad r.nodes)) ≡ 4 * length r.nodes = length-quads (map node_quad r.nodes) ∙ ap (λ n. 4 * n) (length-map r.nodes node_quad) in
    let size : length bytes ≡ 8 + (4 * length r.nodes + length (flat_map spelling r.ids)) =
    ap length (sym e) ∙ omega (arith, m, length-append (quads (map node_quad r.nodes)) (flat_map spelling r.ids)) in
    record {
      count = count;
      nodes = nodes_there (count_of bytes) (length bytes) (length r.nodes) count f.some f.few (omega arith);
      ids = ap (λ n. drop (8 + 4 * n) bytes) count ∙ ap (drop (8 + 4 * length r.nodes)) (sym e) ∙ sym (drop-drop (4 * length r.nodes) 8 (body (Reset r)))
          ∙ drop_at (quads (map node_quad r.nodes)) (flat_map spelling r.ids) (4 * length r.nodes) m;
    }

-- the fields that stand in the bytes
pub second_back : (q a b c d : ℕ) → q < 2 ^ 32 → a ≡ field q 0 7 → b ≡ field q 8 15 → c ≡ field q 16 23 → d ≡ field q 24 31 → packed ((8, a) ∷ (8, b) ∷ (8, c) ∷ (8, d) ∷ []) 0 ≡ q
second_back q a b c d small e f g h = omega arith

pub body_back : (r : ResetEntry) (bytes : List ℕ) (q n : ℕ) → to_be_bytes w32 r.epoch ≡ take 4 bytes → to_be_bytes w32 q ≡ take 4 (drop 4 bytes) → second_of r ≡ q
    → quads (map node_quad r.nodes) ≡ take (4 * n) (drop 8 bytes) → flat_map spelling r.ids ≡ drop (8 + 4 * n) bytes → body (Reset r) ≡ bytes
body_back r bytes q n first second e rows ids =
    let tail : drop 8 bytes ≡ quads (map node_quad r.nodes) ++ flat_map spelling r.ids =
    sym (take-append-drop (4 * n) (drop 8 bytes)) ∙ ap (λ t. take (4 * n) (drop 8 bytes) ++ t) (drop-drop (4 * n) 8 bytes ∙ sym ids) ∙ ap (λ t. t ++ flat_map spelling r.ids) (sym rows) in
    let mid : drop 4 bytes ≡ to_be_bytes w32 (second_of r) ++ (quads (map node_quad r.nodes) ++ flat_map spelling r.ids) =
    sym (take-append-drop 4 (drop 4 bytes)) ∙ ap (λ t. take 4 (drop 4 bytes) ++ t) (drop-drop 4 4 bytes ∙ tail)
    ∙ ap (λ t. t ++ (quads (map node_quad r.nodes) ++ flat_map spelling r.ids)) (sym second ∙ ap (to_be_bytes w32) (sym e)) in
    sym (sym (take-append-drop 4 bytes) ∙ ap (λ t. take 4 bytes ++ t) mid ∙ ap (λ t. t ++ (to_be_bytes w32 (second_of r) ++ (quads (map node_quad r.nodes) ++ flat_map spelling r.ids))) (sym first))

-- a body of kind 1 is a reset's, and only PHY packets are refused in it
pub reset_in : {A : Type 0} (bytes : List ℕ) (e : Entry) → IsBody 1 bytes e → ((r : ResetEntry) → ResetFits r → body (Reset r) ≡ bytes → A) → A
reset_in bytes (Reset r) b f = f r b.fits b.same
reset_in bytes (Async p) b f = cc b.kind
reset_in bytes (Iso p) b f = cc b.kind
reset_in bytes (Event e) b f = cc b.kind
reset_in bytes (Outcome o) b f = cc b.kind
reset_in bytes (Shown s) b f = cc b.kind
reset_in bytes End b f = cc b.kind

only_phy : (bytes : List ℕ) → ((f : PhyFault) → PhyRefuses bytes f → ⊥) → (g : BodyFault) → Refuses 1 bytes g → ⊥
only_phy bytes n (Phy f) h = n f h.1
only_phy bytes n (Packet f) h = cc h.0
only_phy bytes n (IsoFails f) h = cc h.0
only_phy bytes n Fields h = h

pub no_nodes : (bytes : List ℕ) → has_nodes bytes ≡ false → BodyRefused 1 bytes Fields
no_nodes bytes none = (
  λ e b. reset_in bytes e b (λ r fits same. let h = body_has r bytes (shape_of r fits) same in cc (h.nodes, none)),
  only_phy bytes (λ f h. cc (h.nodes, none)),
)

pub ids_err : (bytes rest : List ℕ) (f : BodyFault) → has_nodes bytes ≡ true → rest ≡ drop (ids_at bytes) bytes → IdsJudges rest (Err f) → BodyRefused 1 bytes f
ids_err bytes rest (Phy f) there e h = (refl, record { nodes = there; here = let P : List ℕ → Type 0 = λ t. refusal (length t) t ≡ Some f in subst P e h })
ids_err bytes rest (Packet f) there e h = absurd h
ids_err bytes rest (IsoFails f) there e h = absurd h
ids_err bytes rest Fields there e h = (
  λ x b. reset_in bytes x b (λ r fits same. h.1 r.ids fits.few_packets (record { fits = fits.packets; same = sym (body_has r bytes (shape_of r fits) same).ids ∙ sym e })),
  only_phy bytes (λ f g. let P : List ℕ → Type 0 = λ t. refusal (length t) t ≡ None in cc (g.here, subst P e h.0)),
)

pub not_reset : (r : ResetEntry) (bytes : List ℕ) → ResetShape r → body (Reset r) ≡ bytes → (ResetFits r → ⊥) → BodyRefused 1 bytes Fields
not_reset r bytes shape e never = (
  λ x b. reset_in bytes x b (λ s fits same. let P : ResetEntry → Type 0 = ResetFits in never (subst P (same_reset s r (shape_of s fits) shape (same ∙ sym e)) fits)),
  only_phy bytes (λ f g. let P : List ℕ → Type 0 = λ t. refusal (length t) t ≡ Some f in
      cc (subst P (body_has r bytes shape e).ids g.here, ids_clear (length (flat_map spelling r.ids)) r.ids shape.packets)),
)

pub rest_is : (bytes : List ℕ) (n : ℕ) → n ≡ count_of bytes → take (length bytes - (8 + 4 * n)) (drop (8 + 4 * n) bytes) ≡ drop (ids_at bytes) bytes
rest_is bytes n e = take_rest bytes (8 + 4 * n) ∙ ap (λ k. drop (8 + 4 * k) bytes) e
