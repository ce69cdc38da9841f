-- numbers of bytes, alignments, primitive types
pub mod Size
pub mod Align
pub mod Integer
pub mod KeyedList
pub mod Float
pub mod Primitive
-- data layouts
pub mod DataLayout
pub mod Endian
-- integers and numbers as attributes and registers have them
pub mod IntegerType
pub mod Numeric
pub mod RegKind
-- what a data layout string means
pub mod NumberText
pub mod DataLayoutFault
pub mod DataLayoutSpec
pub mod DataLayoutText
pub mod Setting
-- what errors say
pub mod ErrorText
