-- The number of each refusal, and what it is given for.
use Rattle.std.specs.Prelude.{ℕ}
use Rattle.refusal.specs.declared.Refusal.{Refusal}
use Rattle.refusal.specs.declared.Refusal.TheVariants.{
  PointerSize,
  UnknownOpcode,
  FaultyOperand,
  OrdinalTooLarge,
  NoSegment,
  NoType,
  NoLibrary,
  NoSymbol,
  FaultyChains,
  UnknownVersion,
  UnsupportedFormat,
  BeyondStarts,
  PointerOutside,
  FaultyImport,
  FaultyNode,
  ChildIsOpen,
  TooManyOpenNodes,
  NameTooLong,
  StateOutOfRange,
  PlaceOutside,
  UnfitSizes,
}

abbrev pub number_of : Refusal → ℕ
number_of PointerSize = 1  -- pointer size is neither 4 nor 8, at a start
number_of UnknownOpcode = 2  -- opcode not in the list
number_of FaultyOperand = 3  -- LEB128 or string operand of an opcode is faulty
number_of OrdinalTooLarge = 4  -- ULEB library ordinal above 2147483647
number_of NoSegment = 5  -- a place is due, and the segment is unset
number_of NoType = 6  -- a place is due, and the type is unset but not the segment
number_of NoLibrary = 7  -- a place is due, and the library is unset but neither segment nor type
number_of NoSymbol = 8  -- a place is due, and only the symbol is unset
number_of FaultyChains = 9  -- chained header, starts or segment record do not fit, or record size below 22
number_of UnknownVersion = 10  -- fixups version is not 0
number_of UnsupportedFormat = 11  -- pointer format, import format or symbols format unsupported
number_of BeyondStarts = 12  -- page index or chain index at or beyond the starts list
number_of PointerOutside = 13  -- 4 or 8 pointer bytes do not lie in the segment's bytes
number_of FaultyImport = 14  -- imports or symbols offset beyond the data; import record does not fit; name offset beyond symbols; no NUL
number_of FaultyNode = 15  -- trie node or edge faulty
number_of ChildIsOpen = 16  -- child offset is that of an open node
number_of TooManyOpenNodes = 17  -- a 257th node would be opened
number_of NameTooLong = 18  -- name longer than the lent name buffer
number_of StateOutOfRange = 19  -- state out of range: a read place beyond the lent slice, a pointer size not 4 or 8, a page walk's format not 2, 3 or 6, more than 256 open nodes, a kept name longer than the lent buffer, or a page offset above 65,535 × 65,535
number_of PlaceOutside = 20  -- preflight: a place is outside its segment
number_of UnfitSizes = 21  -- preflight: more than 16 sizes, or one above 2^62
