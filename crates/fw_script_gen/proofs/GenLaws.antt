-- The script of a seed, draw by draw.
use Rattle.std.proofs.Common.{◌≡◌, ℕ, suc, ◌+◌, ◌*◌, ◌%◌, ◌^◌, List, [], ◌++◌, refl, ap, sym, ◌∙◌, add-one, append_assoc, codes, arith}
use Rattle.fw_script_gen.specs.Gen.{state_of, number_of, drawn, device_line, cable_line, kind_text, devices_text, connect_lines, connections_text}

-- what the generator keeps after a draw
pub state_next : (seed n state product new : ℕ) → state ≡ state_of seed n → product ≡ (state * 1664525) % 2 ^ 32 → new ≡ (product + 1013904223) % 2 ^ 32 → new ≡ state_of seed (n + 1)
unfolding state_of
state_next seed n state product new at p e = rw (add-one n) (let s = state_of seed n in omega (arith, at, p, e))

devices_step : (seed i : ℕ) → devices_text seed (suc i) ≡ devices_text seed i ++ device_line (i + 1) (kind_text (drawn seed i 3)) ++ cable_line (i + 1)
unfolding devices_text
devices_step seed i = refl

devices_next : (seed i : ℕ) → devices_text seed (i + 1) ≡ devices_text seed i ++ device_line (i + 1) (kind_text (drawn seed i 3)) ++ cable_line (i + 1)
devices_next seed i = ap (devices_text seed) (add-one i) ∙ devices_step seed i

connections_step : (seed j : ℕ) → connections_text seed (suc j) ≡ connections_text seed j ++ connect_lines (drawn seed (59 + 3 * j) 60) (drawn seed (60 + 3 * j) 60) (drawn seed (61 + 3 * j) 60)
unfolding connections_text
connections_step seed j = refl

connections_next : (seed j : ℕ) → connections_text seed (j + 1) ≡ connections_text seed j ++ connect_lines (drawn seed (59 + 3 * j) 60) (drawn seed (60 + 3 * j) 60) (drawn seed (61 + 3 * j) 60)
connections_next seed j = ap (connections_text seed) (add-one j) ∙ connections_step seed j

pub devices_first : (seed : ℕ) → device_line 0 (codes "deck") ≡ devices_text seed 0
unfolding devices_text
devices_first seed = refl

pub connections_first : (seed : ℕ) → [] ≡ connections_text seed 0
unfolding connections_text
connections_first seed = refl

-- a device and its cable more
pub devices_more : (seed i k : ℕ) (before old mid new : List ℕ) → old ≡ before ++ devices_text seed i → mid ≡ old ++ device_line (i + 1) (kind_text k) → new ≡ mid ++ cable_line (i + 1)
    → k ≡ drawn seed i 3 → new ≡ before ++ devices_text seed (i + 1)
devices_more seed i k before old mid new a b c d =
    let kind : device_line (i + 1) (kind_text k) ≡ device_line (i + 1) (kind_text (drawn seed i 3)) = ap (λ n. device_line (i + 1) (kind_text n)) d in
    c ∙ ap (λ t. t ++ cable_line (i + 1)) (b ∙ ap (λ t. t ++ device_line (i + 1) (kind_text k)) a ∙ ap (λ t. (before ++ devices_text seed i) ++ t) kind)
    ∙ append_assoc (before ++ devices_text seed i) (device_line (i + 1) (kind_text (drawn seed i 3))) (cable_line (i + 1))
    ∙ append_assoc before (devices_text seed i) (device_line (i + 1) (kind_text (drawn seed i 3)) ++ cable_line (i + 1))
    ∙ ap (λ t. before ++ t) (sym (append_assoc (devices_text seed i) (device_line (i + 1) (kind_text (drawn seed i 3))) (cable_line (i + 1))) ∙ sym (devices_next seed i))

-- a connection more
pub connections_more : (seed j x y z : ℕ) (before old new : List ℕ) → old ≡ before ++ connections_text seed j → new ≡ old ++ connect_lines x y z
    → x ≡ drawn seed (59 + 3 * j) 60 → y ≡ drawn seed (60 + 3 * j) 60 → z ≡ drawn seed (61 + 3 * j) 60 → new ≡ before ++ connections_text seed (j + 1)
connections_more seed j x y z before old new a b dx dy dz =
    let lines : connect_lines x y z ≡ connect_lines (drawn seed (59 + 3 * j) 60) (drawn seed (60 + 3 * j) 60) (drawn seed (61 + 3 * j) 60) =
    ap (λ n. connect_lines n y z) dx ∙ ap (λ n. connect_lines (drawn seed (59 + 3 * j) 60) n z) dy ∙ ap (connect_lines (drawn seed (59 + 3 * j) 60) (drawn seed (60 + 3 * j) 60)) dz in
    b ∙ ap (λ t. t ++ connect_lines x y z) a ∙ append_assoc before (connections_text seed j) (connect_lines x y z)
    ∙ ap (λ t. before ++ (connections_text seed j ++ t)) lines ∙ ap (λ t. before ++ t) (sym (connections_next seed j))

-- a number that is drawn
pub drawn_is : (seed n m limit number state : ℕ) → number ≡ number_of state limit → state ≡ state_of seed m → m ≡ n + 1 → number ≡ drawn seed n limit
drawn_is seed n m limit number state a b c = a ∙ ap (λ s. number_of s limit) (b ∙ ap (state_of seed) c)

-- the parts of the script
pub parts_are : (devices wait connections end none a b c all : List ℕ) → none ≡ [] → a ≡ none ++ devices → b ≡ a ++ wait → c ≡ b ++ connections → all ≡ c ++ end
    → all ≡ devices ++ wait ++ connections ++ end
parts_are devices wait connections end none a b c all e f g h i =
    i ∙ ap (λ t. t ++ end) (h ∙ ap (λ t. t ++ connections) (g ∙ ap (λ t. t ++ wait) (f ∙ ap (λ t. t ++ devices) e)))

pub state_first : (seed : ℕ) → seed ≡ state_of seed 0
unfolding state_of
state_first seed = refl
