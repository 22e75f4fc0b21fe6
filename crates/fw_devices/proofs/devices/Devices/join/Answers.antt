use Rattle.fw_devices.proofs.devices.Devices.join.Goals as goal

pub join_free-requires : goal.join_free-requires
join_free-requires c = let none = rw (← c.self.view_is) at c.requires.free in none
