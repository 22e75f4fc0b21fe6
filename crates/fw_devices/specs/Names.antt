-- Where names stand.
use Rattle.std.specs.Prelude.{◌≡◌, ℕ, ◌<◌, ◌≤◌, List, [], length, get_or}
use Rattle.std.specs.List.{position_or_len}
use Rattle.fw_devices.specs.Network.{same_bytes}

-- Each place that is kept is no device's, or that of the first name of its kind. There is room for 63 names.
pub record HasPlaces (names : List (List ℕ)) (places : List ℕ) (capacity : ℕ) : Type 0 where
  pub room : 63 ≤ capacity
  pub few : length names ≤ 63
  pub first : (key : ℕ) → get_or places key 255 < length names
      → position_or_len (same_bytes (get_or names (get_or places key 255) [])) names ≡ get_or places key 255
  pub none : (key : ℕ) → length names ≤ get_or places key 255 → get_or places key 255 ≡ 255
