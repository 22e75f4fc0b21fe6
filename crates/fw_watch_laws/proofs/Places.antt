-- What is known of a register after one that was put.
use Rattle.fw_watch_laws.proofs.Common.{◌≡◌, ◌≢◌, refl, ℕ, ◌+◌, ◌*◌, ◌<◌, ◌==◌, ◌&&◌, Bool, true, false, List, length, if◌then◌else◌, Some, None, unwrap_or, arith, get_or, Known, At, WatchedRegister}
use Rattle.fw_watch_laws.proofs.Common.{Bandwidth, ChannelsHigh, ChannelsLow, Output, Input, nothing_known, State, known_of, with_known, with_known_plug, IsNumber, IsPlace, is_same_by}
use Rattle.std.proofs.Common.{set}
use Rattle.std.proofs.lemmas.List.{get_or-set_other}
use Rattle.std.proofs.lemmas.Grind.{get_or-set_at}
use Rattle.fw_watch_laws.specs.LastKnown.{is_same}

-- one place of the table, as two numbers are one
put_place : (b : Bool) (plugs : List Known) (i j : ℕ) (k : Known) → j < length plugs → (b ≡ true → j ≡ i) → (b ≡ false → j ≢ i)
    → get_or (set plugs i k) j nothing_known ≡ (if b then k else get_or plugs j nothing_known)
put_place true plugs i j k h same other = get_or-set_at plugs i j k nothing_known (same refl) (omega (arith, h, same refl))
put_place false plugs i j k h same other = get_or-set_other plugs i j k nothing_known (other refl)

same_plug : (n m a b : ℕ) → ((n == m) && (a == b)) ≡ true → m * 62 + b ≡ n * 62 + a
same_plug n m a b e = grind (arith, e)

other_plug : (n m a b : ℕ) → a < 62 → b < 62 → ((n == m) && (a == b)) ≡ false → m * 62 + b ≢ n * 62 + a
other_plug n m a b h g e = λ f. grind (arith, e, f, h, g)

place : ℕ → WatchedRegister → At
place n r = record { node = n; register = r }

-- what is known after one that was put: of the same register that, of another what was known
put_by : (s : State) (n : ℕ) (r : WatchedRegister) (m : ℕ) (q : WatchedRegister) (k : Known) → IsNumber r → m < 63 → IsNumber q → length s.plugs ≡ 3906
    → known_of (with_known s (place n r) k) (place m q) ≡ (if is_same_by r q (n == m) then k else known_of s (place m q))
unfolding known_of with_known with_known_plug place
put_by s n Bandwidth m Bandwidth k a h b l = refl
put_by s n Bandwidth m q k a h b l = refl
put_by s n ChannelsHigh m ChannelsHigh k a h b l = refl
put_by s n ChannelsHigh m q k a h b l = refl
put_by s n ChannelsLow m ChannelsLow k a h b l = refl
put_by s n ChannelsLow m q k a h b l = refl
put_by s n (Output x) m (Output y) k a h b l =
    put_place ((n == m) && (x == y)) s.plugs (n * 62 + x) (m * 62 + y) k (omega (arith, h, b, l)) (same_plug n m x y) (other_plug n m x y (omega (arith, a)) (omega (arith, b)))
put_by s n (Output x) m (Input y) k a h b l = get_or-set_other s.plugs (n * 62 + x) (m * 62 + (31 + y)) k nothing_known (omega (arith, a, b))
put_by s n (Output x) m q k a h b l = refl
put_by s n (Input x) m (Input y) k a h b l =
    put_place ((n == m) && (x == y)) s.plugs (n * 62 + (31 + x)) (m * 62 + (31 + y)) k (omega (arith, h, b, l))
    (λ e. omega (arith, same_plug n m x y e)) (λ e f. other_plug n m x y (omega (arith, a)) (omega (arith, b)) e (omega (arith, f)))
put_by s n (Input x) m (Output y) k a h b l = get_or-set_other s.plugs (n * 62 + (31 + x)) (m * 62 + y) k nothing_known (omega (arith, a, b))
put_by s n (Input x) m q k a h b l = refl

pub known_put : (s : State) (a at : At) (k : Known) → IsNumber a.register → IsPlace at → length s.plugs ≡ 3906
    → known_of (with_known s a k) at ≡ (if is_same a at then k else known_of s at)
unfolding place
known_put s a at k n p l = put_by s a.node a.register at.node at.register k n p.node p.number l

pub put_twice : (b : Bool) (k j x : Known) → (if b then k else (if b then j else x)) ≡ (if b then k else x)
put_twice true k j x = refl
put_twice false k j x = refl

pub unwrap_if : (b : Bool) (k x : Known) → (if b then k else x) ≡ unwrap_or (if b then Some k else None) x
unwrap_if true k x = refl
unwrap_if false k x = refl
