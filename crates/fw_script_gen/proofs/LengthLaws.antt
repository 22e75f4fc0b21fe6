-- How long the scripts of seeds are at most.
use Rattle.std.proofs.Common.{ℕ, zero, suc, ◌+◌, ◌-◌, ◌*◌, ◌/◌, ◌%◌, ◌<◌, ◌≤◌, ◌==◌, List, ◌++◌, length, Bool, true, false, if◌then◌else◌, codes, decimal, arith, length-append}
use Rattle.std.proofs.lemmas.Fmt.{length-decimal-le}
use Rattle.fw_script_gen.specs.Gen.{kind_text, drawn, device_line, cable_line, connect_lines, devices_text, connections_text, last_lines, script_of, line}

few_digits : (n : ℕ) → n < 100 → length (decimal n) ≤ 2
few_digits n h = length-decimal-le 2 n (omega arith) h (omega (arith, h))

kind_few : (k : ℕ) → length (kind_text k) ≤ 9
kind_few k = by (k == 0) (k == 1)
  where
    by : (a b : Bool) → length (if a then codes "deck" else if b then codes "camcorder" else codes "computer") ≤ 9
    by true b = omega arith
    by false true = omega arith
    by false false = omega arith

-- one part after another
both_few : (a b : List ℕ) (x y : ℕ) → length a ≤ x → length b ≤ y → length (a ++ b) ≤ x + y
both_few a b x y e f = omega (arith, length-append a b, e, f)

at_most : (xs : List ℕ) (x y : ℕ) → x ≤ y → length xs ≤ x → length xs ≤ y
at_most xs x y e f = omega (arith, e, f)

device_few : (i : ℕ) (kind : List ℕ) → i < 100 → length kind ≤ 9 → length (device_line i kind) ≤ 27
device_few i kind small few = simp length-append (omega (arith, few_digits i small, few))

cable_few : (i : ℕ) → i < 100 → length (cable_line i) ≤ 19
cable_few i small = simp length-append (omega (arith, few_digits ((i - 1) / 2) (omega (arith, small)), few_digits (2 - i % 2) (omega arith), few_digits i small))

connect_few : (x y z : ℕ) → x < 100 → y < 100 → z < 100 → length (connect_lines x y z) ≤ 43
connect_few x y z e f g = simp length-append (omega (arith, few_digits x e, few_digits y f, few_digits z g))

drawn_small : (seed n : ℕ) → drawn seed n 60 < 100
drawn_small seed n = omega arith

devices_few : (seed n : ℕ) → n < 99 → length (devices_text seed n) ≤ 27 + 46 * n
unfolding devices_text
devices_few seed zero h = device_few 0 (codes "deck") (omega arith) (omega arith)
devices_few seed (suc n) h =
    let before = devices_few seed n (omega (arith, h)) in
    let device = device_few (n + 1) (kind_text (drawn seed n 3)) (omega (arith, h)) (kind_few (drawn seed n 3)) in
    let cable = cable_few (n + 1) (omega (arith, h)) in
    let line = device_line (n + 1) (kind_text (drawn seed n 3)) in
    at_most (devices_text seed (suc n)) (27 + 46 * n + 27 + 19) (27 + 46 * suc n) (omega arith)
    (both_few (devices_text seed n ++ line) (cable_line (n + 1)) (27 + 46 * n + 27) 19 (both_few (devices_text seed n) line (27 + 46 * n) 27 before device) cable)

connections_few : (seed n : ℕ) → length (connections_text seed n) ≤ 43 * n
unfolding connections_text
connections_few seed zero = omega arith
connections_few seed (suc n) =
    let x = drawn seed (59 + 3 * n) 60 in
    let y = drawn seed (60 + 3 * n) 60 in
    let z = drawn seed (61 + 3 * n) 60 in
    let lines = connect_few x y z (drawn_small seed (59 + 3 * n)) (drawn_small seed (60 + 3 * n)) (drawn_small seed (61 + 3 * n)) in
    at_most (connections_text seed (suc n)) (43 * n + 43) (43 * suc n) (omega arith) (both_few (connections_text seed n) (connect_lines x y z) (43 * n) 43 (connections_few seed n) lines)

-- far below the limit of scripts
pub script_few : (seed : ℕ) → length (script_of seed) ≤ 10000
script_few seed =
    let wait = line (codes "wait 8000") in
    at_most (script_of seed) (2741 + 20 + 1290 + 80) 10000 (omega arith)
    (both_few (devices_text seed 59 ++ wait ++ connections_text seed 30) last_lines (2741 + 20 + 1290) 80
    (both_few (devices_text seed 59 ++ wait) (connections_text seed 30) (2741 + 20) 1290 (both_few (devices_text seed 59) wait 2741 20 (devices_few seed 59 (omega arith)) (omega arith))
    (connections_few seed 30)) (omega arith))
