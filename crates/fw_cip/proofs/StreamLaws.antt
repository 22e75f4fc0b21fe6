-- What is expected after each packet, and that the packets of a stream fit.
use Rattle.std.proofs.Common.{◌≡◌, ℕ, ◌+◌, ◌%◌, ◌<◌, List, [], ◌∷◌, ◌++◌, Bool, true, false, Option, Some, None, IfSome, arith, refl, ap, sym, ◌∙◌, if◌then◌else◌}
use Rattle.std.proofs.lemmas.Bool.Decides.{nat_tests}
use Rattle.std.specs.Option.{is_some, unwrap_or}
use Rattle.fw_cip.specs.declared.packet.IsoPacket.{IsoPacket}
use Rattle.fw_cip.specs.Iso.{bit, data_length, Fits, IsBlock}
use Rattle.fw_cip.specs.Streams.{Cycle, count_of, or_else, latest_block, dbc_after, expected_of, packet_with, packet_after, stream, kind_of, heard, IsHeardWhole}

small : (b : Bool) → bit b < 2
small b = grind arith

size_small : (block : Option (List ℕ)) → data_length block < 65536
size_small block = grind arith

-- the packets of a stream fit
pub packet_fits : (channel dbc sid : ℕ) (fifty : Bool) (block : Option (List ℕ)) → channel < 64 → dbc < 256 → sid < 64 → IfSome block IsBlock → Fits (packet_with channel dbc sid fifty block)
packet_fits channel dbc sid fifty block c d s b = let n = size_small block in let f = small fifty in
    record { header = search (arith, n, c); first = search (arith, s, d); second = search (arith, f); block = b }

-- the latest block, one packet later
latest_more : (ps : List IsoPacket) (p : IsoPacket) → latest_block (ps ++ p ∷ []) ≡ or_else (if is_some p.block then Some p else None) (latest_block ps)
latest_more [] p = grind arith
latest_more (q ∷ ps) p = let e = latest_more ps p in rw e (grind arith)

-- A packet with a block is the latest one.
pub expected_block : (ps : List IsoPacket) (p : IsoPacket) → is_some p.block ≡ true → Some ((p.cip.dbc + 1) % 256) ≡ expected_of (ps ++ p ∷ [])
expected_block [] p h = rw h refl
expected_block (q ∷ ps) p h = rw (latest_more (q ∷ ps) p, h) refl

-- A packet without a block changes nothing, but if it is the first.
pub expected_empty : (ps : List IsoPacket) (p : IsoPacket) → is_some p.block ≡ false → Some (unwrap_or (expected_of ps) p.cip.dbc) ≡ expected_of (ps ++ p ∷ [])
expected_empty [] p h = rw h refl
expected_empty (q ∷ ps) p h = rw (latest_more (q ∷ ps) p, h) refl

counted : (block : Option (List ℕ)) (p : IsoPacket) (blocks dbc : ℕ) → p.cip.dbc ≡ blocks % 256 → (blocks + count_of block) % 256 ≡ dbc
    → dbc_after (blocks % 256) (if is_some block then Some p else None) ≡ dbc
counted None p blocks dbc e h = omega (arith, h)
counted (Some b) p blocks dbc e h = rw e (omega arith)

-- the count goes on after a packet of a stream
goes_on : (latest : Option IsoPacket) (p : IsoPacket) (blocks dbc : ℕ) → p.cip.dbc ≡ blocks % 256 → dbc_after ((blocks + count_of p.block) % 256) latest ≡ dbc
    → dbc_after (blocks % 256) (or_else latest (if is_some p.block then Some p else None)) ≡ dbc
goes_on (Some q) p blocks dbc e h = h
goes_on None p blocks dbc e h = counted p.block p blocks dbc e h

-- a packet of a stream has the count after those before it
next_in : (channel blocks : ℕ) (cycles : List Cycle) (before following : List IsoPacket) (p : IsoPacket) → stream channel blocks cycles ≡ before ++ p ∷ following
    → dbc_after (blocks % 256) (latest_block before) ≡ p.cip.dbc
next_in channel blocks [] [] following p e = cc
next_in channel blocks [] (q ∷ qs) following p e = cc
next_in channel blocks (c ∷ cs) [] following p e = let same : packet_after channel blocks c.sid c.fifty c.block ≡ p = cc in ap (λ (x : IsoPacket). x.cip.dbc) same
next_in channel blocks (c ∷ cs) (q ∷ qs) following p e =
    let first : packet_after channel blocks c.sid c.fifty c.block ≡ q = cc in
    let rest : stream channel (blocks + count_of c.block) cs ≡ qs ++ p ∷ following = cc in
    let count : count_of c.block ≡ count_of q.block = ap (λ (x : IsoPacket). count_of x.block) first in
    let dbc : q.cip.dbc ≡ blocks % 256 = sym (ap (λ (x : IsoPacket). x.cip.dbc) first) in
    let h = next_in channel (blocks + count_of c.block) cs qs following p rest in
    goes_on (latest_block qs) q blocks p.cip.dbc dbc (ap (λ n. dbc_after ((blocks + n) % 256) (latest_block qs)) (sym count) ∙ h)

as_expected : (expected : ℕ) (p : IsoPacket) → expected ≡ p.cip.dbc → heard (Some expected) p ≡ kind_of p.block
as_expected expected p e = grind (arith, nat_tests)

pub heard_whole : (channel blocks : ℕ) (cycles : List Cycle) → IsHeardWhole (stream channel blocks cycles)
heard_whole channel blocks cycles [] following p e = refl
heard_whole channel blocks [] (q ∷ qs) following p e = cc
heard_whole channel blocks (c ∷ cs) (q ∷ qs) following p e =
    let first : packet_after channel blocks c.sid c.fifty c.block ≡ q = cc in
    let dbc : blocks % 256 ≡ q.cip.dbc = ap (λ (x : IsoPacket). x.cip.dbc) first in
    as_expected _ p (ap (λ n. dbc_after n (latest_block (q ∷ qs))) (sym dbc) ∙ next_in channel blocks (c ∷ cs) (q ∷ qs) following p e)
