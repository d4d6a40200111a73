pub mod LayoutText
pub mod FrameText
pub mod TemplateText
pub mod TextLaws
pub mod SkipBlocks
