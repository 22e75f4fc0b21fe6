-- Tables by number and by plug: functions, with a change at one place, a sum below a bound and a first place below a bound.
use Rattle.fw_terms.specs.declared.plug.PlugAt.{PlugAt}
use Rattle.std.specs.Prelude.{ℕ, zero, suc, ◌+◌, ◌==◌, Bool, ◌&&◌, if◌then◌else◌, Option, Some, None, is_some}

-- two plugs are one
abbrev pub same_plug : PlugAt → PlugAt → Bool
same_plug p q = (p.device == q.device) && (p.plug == q.plug)

-- the table with v at k
abbrev pub update : {A : Type 0} → (ℕ → A) → ℕ → A → ℕ → A
update f k v j = if j == k then v else f j

-- the table with v at plug p
abbrev pub update_plug : {A : Type 0} → (PlugAt → A) → PlugAt → A → PlugAt → A
update_plug f p v q = if same_plug q p then v else f q

-- f 0 + .. + f (n - 1)
unfoldable pub sum_to : ℕ → (ℕ → ℕ) → ℕ
sum_to zero f = 0
sum_to (suc n) f = sum_to n f + f n

-- the first k below n that passes
unfoldable pub find_to : ℕ → (ℕ → Bool) → Option ℕ
find_to zero test = None
find_to (suc n) test = elim (find_to n test) [ Some k ↦ Some k | None ↦ (if test n then Some n else None) ]

-- the plug of a device, by number
abbrev pub at_plug : ℕ → ℕ → PlugAt
at_plug d n = record { device = d; plug = n }

-- the plug of a device, if there is a number of one
abbrev pub plug_on : ℕ → Option ℕ → Option PlugAt
plug_on d None = None
plug_on d (Some n) = Some (at_plug d n)

-- the first plug of a device that passes
abbrev pub first_of_device : (PlugAt → Bool) → Option ℕ → Option PlugAt
first_of_device test None = None
first_of_device test (Some d) = plug_on d (find_to 31 (λ n. test (at_plug d n)))

-- the first plug that passes, of devices below 63 and numbers below 31
abbrev pub find_plug : (PlugAt → Bool) → Option PlugAt
find_plug test = first_of_device test (find_to 63 (λ d. is_some (find_to 31 (λ n. test (at_plug d n)))))

-- the sum over the plugs of devices below 63 and numbers below 31
abbrev pub sum_plugs : (PlugAt → ℕ) → ℕ
sum_plugs f = sum_to 63 (λ d. sum_to 31 (λ n. f (at_plug d n)))
