-- Parts of a whole, rounded.
pub use Rattle.show_tables.specs.Shares.{parts_above, share_of, tenths_of, whole_of}
