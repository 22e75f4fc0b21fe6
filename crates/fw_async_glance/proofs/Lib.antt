pub mod GlanceLaws
