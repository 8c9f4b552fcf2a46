-- The definitions that other files cite most, passed on from one place. Declares nothing.
pub use Rattle.coll_kinds.specs.Checks.{allowed, broken, has_counts, has_operation, has_root, is_barrier, root_fits, sizes_fit}
pub use Rattle.coll_kinds.specs.Elements.{AreBytes, Element, IsElement, element_at, element_bytes, in_range, is_pair, is_signed, limit, pair, whole}
pub use Rattle.coll_kinds.specs.Elements.{width, word}
pub use Rattle.coll_kinds.specs.Groups.{IsGroup, is_among, member_of}
pub use Rattle.coll_kinds.specs.Lengths.{block_len, count_at, given_by, given_len, got_by, got_len, lent, row_len, total}
pub use Rattle.coll_kinds.specs.Limits.{max_len, max_lent, max_ranks}
pub use Rattle.coll_kinds.specs.Needs.{needs, needs_of}
pub use Rattle.coll_kinds.specs.Puts.{put}
pub use Rattle.coll_kinds.specs.Refusals.{mismatch_at}
pub use Rattle.coll_kinds.specs.Sameness.{mode_number, same_signature}
pub use Rattle.coll_kinds.specs.Texts.{number_in, pair_of, text_of, value_of}
pub use Rattle.coll_kinds.specs.Words.{datatype_of, datatype_word, kind_of, kind_word, operation_of, operation_word}
