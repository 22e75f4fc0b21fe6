-- The registers of the isochronous resource manager (IEEE 1394-1995, 8.3.2.3), by offset.
use Rattle.std.specs.Prelude.{ℕ, ◌==◌, Bool, Option, Some, None, if◌then◌else◌}
use Rattle.fw_csr.specs.declared.offset.TheConstants.{BUS_MANAGER_ID, BANDWIDTH_AVAILABLE, CHANNELS_AVAILABLE_HI, CHANNELS_AVAILABLE_LO}
use Rattle.fw_csr.specs.Requests.{offset_of}
use Rattle.fw_csr.specs.Replies.{word_after}
use Rattle.fw_csr.specs.declared.request.Request.{Request}
use Rattle.fw_csr.specs.declared.register.RegisterAccess.{RegisterAccess}
use Rattle.fw_csr.specs.declared.register.RegisterAccess.TheVariants.{ReadSwap}

-- the words of the manager's registers
pub record ManagerWords : Type 0 where
  pub bus_manager_id : ℕ
  pub bandwidth_available : ℕ
  pub channels_available_hi : ℕ
  pub channels_available_lo : ℕ
  -- whether the bus withholds channel 31
  pub withheld : Bool

-- no bus manager, all units, and all channels but 31 if the bus withholds it
abbrev pub initial_words : Bool → ManagerWords
initial_words withheld = record {
  bus_manager_id = 0x3F;
  bandwidth_available = 4915;
  channels_available_hi = if withheld then 0xFFFF_FFFE else 0xFFFF_FFFF;
  channels_available_lo = 0xFFFF_FFFF;
  withheld = withheld;
}

-- each can be read and swapped
abbrev pub register_at : ManagerWords → ℕ → Option RegisterAccess
register_at m offset =
    if offset == BUS_MANAGER_ID then Some (ReadSwap m.bus_manager_id)
    else if offset == BANDWIDTH_AVAILABLE then Some (ReadSwap m.bandwidth_available)
    else if offset == CHANNELS_AVAILABLE_HI then Some (ReadSwap m.channels_available_hi)
    else if offset == CHANNELS_AVAILABLE_LO then Some (ReadSwap m.channels_available_lo)
    else None

-- the word of the register at an offset, after a request there or elsewhere
abbrev pub after_at : ℕ → Request → ℕ → ℕ
after_at offset r word = if offset_of r == offset then word_after word r else word

-- the four words after a request; whether channel 31 is withheld stays
abbrev pub words_after : ManagerWords → Request → ManagerWords
words_after m r = record {
  bus_manager_id = after_at BUS_MANAGER_ID r m.bus_manager_id;
  bandwidth_available = after_at BANDWIDTH_AVAILABLE r m.bandwidth_available;
  channels_available_hi = after_at CHANNELS_AVAILABLE_HI r m.channels_available_hi;
  channels_available_lo = after_at CHANNELS_AVAILABLE_LO r m.channels_available_lo;
  withheld = m.withheld;
}
