-- The lengths of two real files, which are 0 where they are not open.
use Rattle.std.specs.Prelude.{ℕ, Option, None, Some}
use Rattle.dk_device.specs.declared.host.HostFiles.{HostFiles}

abbrev pub main_len : Option HostFiles → ℕ
main_len None = 0
main_len (Some files) = files.main.len

abbrev pub wal_len : Option HostFiles → ℕ
wal_len None = 0
wal_len (Some files) = files.wal.len
