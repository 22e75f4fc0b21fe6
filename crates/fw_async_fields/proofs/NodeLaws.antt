-- Node IDs and numbers, there and back.
use Rattle.fw_async_fields.proofs.Common.{◌≡◌, ℕ, ◌≤◌, ◌<◌, ◌^◌, Some, arith, nat_tests}
use Rattle.fw_async_fields.specs.NodeIds.{first_id, node_id, number_of, local_number}

pub number_back : (n : ℕ) → n ≤ 63 → number_of (node_id n) ≡ n
number_back n few = omega arith

pub local_back : (n : ℕ) → n ≤ 63 → local_number (node_id n) ≡ Some n
local_back n few = grind (arith, nat_tests)

pub id_back : (id : ℕ) → first_id ≤ id → id < 2 ^ 16 → node_id (number_of id) ≡ id
id_back id local small = omega arith
